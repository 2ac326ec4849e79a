-- What watchers are told at a command's end (docs/HOST.md, "Telling").
use Rattle.std.specs.Prelude.{◌≡◌, ℕ, List, [], ◌∷◌, length, map, filter, Bool, true, false, not, ◌&&◌, Option, Some, None}
use Rattle.std.specs.List.{list_all}
use Rattle.ink_model.specs.Host.Events.{after}
use Rattle.ink_model.specs.Values.Same.{same_value}
use Rattle.ink_model.specs.Variables.Store.{Values, stored}
use Rattle.ink_model.specs.declared.host.Change.{Change}
use Rattle.ink_model.specs.declared.host.Event.{Event}
use Rattle.ink_model.specs.declared.host.Event.TheVariants as event
use Rattle.ink_model.specs.declared.value.Value.{Value}

-- ---- what is told

-- there was no value, or another one: of another kind, or with other content
abbrev pub is_other : Option Value → Value → Bool
is_other None v = true
is_other (Some w) v = not (same_value w v)

-- a global that is watched, and was absent at the start or had another value
abbrev pub is_told : (List ℕ → Bool) → Values → List ℕ × Value → Bool
is_told watches start e = watches e.0 && is_other (stored e.0 start) e.1

abbrev pub change_of : List ℕ × Value → Change
change_of e = record { name = e.0; value = e.1 }

-- What is told of these values, in their order, by what is watched and the values at the start. They have one row for each name
-- (`store` of Variables/Store.antt), so that each global is told once.
abbrev pub told : (List ℕ → Bool) → Values → Values → List Change
told watches start now = map change_of (filter (is_told watches start) now)

-- ---- what comes of it

-- The events of changes, with stamps from n on. By one answer for each: a watcher that found no memory has no event and no stamp.
abbrev pub saws : ℕ → List Change → List Bool → List Event
saws n [] answers = []
saws n (c ∷ cs) [] = []
saws n (c ∷ cs) (true ∷ answers) = event.Saw c.name n c.value ∷ saws (after n) cs answers
saws n (c ∷ cs) (false ∷ answers) = saws n cs answers

-- These events come of telling these changes, from stamp n on; all: no watcher was without memory.
pub record ToldAs (n : ℕ) (cs : List Change) (all : Bool) (es : List Event) : Type 0 where
  pub answers : List Bool
  pub one_each : length answers ≡ length cs
  pub events : es ≡ saws n cs answers
  pub all_told : all ≡ list_all (λ b. b) answers
