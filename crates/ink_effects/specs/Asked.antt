-- What questions for visits and turns are asked of, beside the definitions.
use Rattle.std.specs.Prelude.{◌≡◌, ℤ, ◌≤◌, List, length, true, false, Option, Some, None, option_map, Result, Ok, Err, ok_or}
use Rattle.ink_model.specs.Variables.Counts.{CountsOf, visits_of}
use Rattle.ink_model.specs.Run.Entered.{flags_at}
use Rattle.ink_model.specs.Story.Path.{is_container}
use Rattle.ink_model.specs.Variables.Rows.{place_order}
use Rattle.ink_model.specs.Run.Step.Diverts.{landing_by}
use Rattle.ink_model.specs.Story.Tree.{StoryTree, at}
use Rattle.ink_model.specs.declared.fault.Fault.{Fault}
use Rattle.ink_model.specs.declared.fault.Fault.TheVariants.{BadTarget, NotCounted, StackEmpty}
use Rattle.ink_model.specs.declared.limits.TheConstants.{MAX_STACK}
use Rattle.ink_model.specs.declared.place.Part.{Part}
use Rattle.ink_model.specs.declared.value.Value.{Value}
use Rattle.ink_model.specs.declared.value.Value.TheVariants as value
use Rattle.ink_tree.specs.Nodes.{node_place, place_of}
use Rattle.ink_tree.specs.declared.spot.NodeId.{NodeId}
use Rattle.ink_tree.specs.declared.spot.Spot.{Spot}
use Rattle.ink_value.specs.Stack.{with_top}

-- the visits of a container, where there is one
abbrev pub visits_in : StoryTree → CountsOf (List Part) → Option (List Part) → Result ℤ Fault
visits_in s counts None = Err NotCounted
visits_in s counts (Some q) = visits_of place_order q (flags_at (at s q)) counts

-- the container at a place, none where none stands there
abbrev pub IsContainer : StoryTree → List Part → Option NodeId → Type 0
IsContainer s p None = is_container (at s p) ≡ false
IsContainer s p (Some n) = (is_container (at s p) ≡ true) × (node_place s n ≡ p)

-- ---- a target that is asked about

-- the place that the value on top names
abbrev pub asked_place : StoryTree → Option (Value × List Value) → Result (List Part) Fault
asked_place s None = Err StackEmpty
asked_place s (Some r) = ok_or (option_map (λ to. to.place) (landing_by s r.0)) BadTarget

-- the same place by its spot
abbrev pub asked_of : StoryTree → Result Spot Fault → Result (List Part) Fault
asked_of s (Ok spot) = Ok (place_of s spot)
asked_of s (Err f) = Err f

-- A number is in the place of the value on top, if there is one.
abbrev pub Answers : ℤ → Option (Value × List Value) → List Value → Result (Unit {0}) Fault → Type 0
Answers z popped new (Ok u) = (Some new ≡ with_top (value.Int z) popped) × (length new ≤ MAX_STACK)
Answers z popped new (Err f) = (f ≡ StackEmpty) × (popped ≡ None)
