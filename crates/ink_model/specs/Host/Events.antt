-- What happened between a player and the objects of its host (docs/HOST.md).
use Rattle.std.specs.Prelude.{ℕ, ◌-◌, ◌^◌, pos, suc, nat_lt, List, [], ◌∷◌, map, codes, true, if◌then◌else◌, Option, Some, None}
use Rattle.ink_model.specs.Host.Bindings.{value_given}
use Rattle.ink_model.specs.Protocol.ValueJson.{value_data}
use Rattle.serde_json.specs.Data.{Data, boolean, number, string, array, object, Items, no_items, item, no_members, member}
use Rattle.serde_json.specs.Find.{of_integer}
use Rattle.ink_model.specs.declared.host.Event.{Event}
use Rattle.ink_model.specs.declared.host.Event.TheVariants as event
use Rattle.ink_model.specs.declared.host.Given.{Given}
use Rattle.ink_model.specs.declared.value.Value.{Value}

-- ---- stamps

-- the stamp after one; the last, 2^64 - 1, stays
abbrev pub after : ℕ → ℕ
after n = if nat_lt n (2 ^ 64 - 1) then suc n else n

-- the stamp after so many events
abbrev pub later : {E : Type 0} → ℕ → List E → ℕ
later n [] = n
later n (e ∷ es) = later (after n) es

-- ---- calls

-- a call of a turn function, and what came of it: nothing where it refused
pub record Made : Type 0 where
  pub name : List ℕ
  pub arguments : List Value
  pub gave : Option Given

-- what the calls gave, in order
abbrev pub answers_of : List Made → List (Option Given)
answers_of made = map (λ m. m.gave) made

-- calls as events, with stamps from n on
abbrev pub calls : ℕ → List Made → List Event
calls n [] = []
calls n (m ∷ made) = event.Call m.name m.arguments m.gave n ∷ calls (after n) made

-- ---- events as JSON

abbrev pub items_of : List Data → Items
items_of [] = no_items
items_of (d ∷ ds) = item d (items_of ds)

-- a call with its answer, or without where it was refused
abbrev pub call_data : List ℕ → List Value → Option Given → ℕ → Data
call_data name arguments (Some g) n = object
    (member (codes "args") (array (items_of (map value_data arguments)))
    (member (codes "call") (string name)
    (member (codes "gave") (value_data (value_given g))
    (member (codes "stamp") (number (of_integer (pos n))) no_members))))
call_data name arguments None n = object
    (member (codes "args") (array (items_of (map value_data arguments)))
    (member (codes "call") (string name)
    (member (codes "refused") (boolean true)
    (member (codes "stamp") (number (of_integer (pos n))) no_members))))

abbrev pub event_data : Event → Data
event_data (event.Call name arguments gave n) = call_data name arguments gave n
event_data (event.Saw name n v) =
    object (member (codes "saw") (string name) (member (codes "stamp") (number (of_integer (pos n))) (member (codes "value") (value_data v) no_members)))
