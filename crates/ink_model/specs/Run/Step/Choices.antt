-- The effects of choice points (docs/RUNNING.md, "Choices").
use Rattle.std.specs.Prelude.{ℕ, ℤ, pos, int_lt, List, length, Bool, false, Option, Some, None, Result, Ok, Err}
use Rattle.ink_model.specs.Choices.Making.{added, make}
use Rattle.ink_model.specs.Run.Configuration.{ChoiceOf}
use Rattle.ink_model.specs.Run.Effect.{Context, Fields, Effect, Moves, Offers, or_else, or_fault, pushing}
use Rattle.ink_model.specs.Run.Step.Counts.{visits_at}
use Rattle.ink_model.specs.Story.Acceptance.{lands, leaf_counted}
use Rattle.ink_model.specs.Story.Tree.{StoryTree}
use Rattle.ink_model.specs.declared.content.Leaf.TheVariants as leaves
use Rattle.ink_model.specs.declared.fault.Fault.{Fault}
use Rattle.ink_model.specs.declared.fault.Fault.TheVariants.{BadTarget}
use Rattle.ink_model.specs.declared.place.Part.{Part}
use Rattle.ink_model.specs.declared.value.Value.TheVariants as value

-- how many choices were made, invisible ones too
abbrev pub push_choice_count : Context → Fields → Effect
push_choice_count seen f = pushing (value.Int (pos (length seen.choices))) f

-- there are visits
abbrev pub is_visited : Result ℤ Fault → Bool
is_visited (Ok z) = int_lt (pos 0) z
is_visited (Err f) = false

module _ (s : StoryTree) (p : List Part) (seen : Context) where
  abbrev pub visited_at : Option (List Part) → Bool
  visited_at None = false
  visited_at (Some q) = is_visited (visits_at s seen q)

  -- a choice is offered once only, and the very container to which its path leads was visited; of any other this is false
  abbrev pub was_visited : List ℕ → ℕ → Bool
  was_visited text flags = visited_at (leaf_counted s p (leaves.Choice text flags))

  -- with a choice that was made, if any was
  abbrev pub offering : Option (ChoiceOf (List Part)) → Fields → Effect
  offering None f = Moves f
  offering (Some choice) f = or_fault (added choice seen.choices) (λ choices. Offers choices f)

  -- a choice point: where it leads, what it makes of what it pops, and the choices with that one
  abbrev pub offer : List ℕ → ℕ → Fields → Effect
  offer text flags f = or_else BadTarget (lands s p text) (λ q.
      or_fault (make flags q (was_visited text flags) seen.thread f.stack) (λ r. offering r.0 (record f { stack = r.1 })))
