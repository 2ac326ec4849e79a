-- How changes of the evaluation stack are put back.
use Rattle.std.specs.Prelude.{◌≤◌, ℕ, List, [], ◌∷◌, ◌++◌, Option, length}
use Rattle.ink_model.specs.declared.limits.TheConstants.{MAX_STACK}
use Rattle.ink_model.specs.declared.value.Value.{Value}
use Rattle.ink_trail.specs.Stays.{Stays}
use Rattle.ink_trail.specs.Undo.{but_last, spare, stood_at}
use Rattle.ink_value.specs.Stack.{Stack}
use Rattle.ink_value.specs.declared.undo.StackPair.{StackPair}
use Rattle.ink_value.specs.declared.undo.StackPair.TheVariants.{Pushed, Popped, Replaced}

-- the values before a change, the bottom first
abbrev pub stack_back : StackPair → List Value → List Value
stack_back Pushed vs = but_last vs
stack_back (Popped v) vs = vs ++ v ∷ []
stack_back (Replaced v) vs = but_last vs ++ v ∷ []

-- they are within the limit, and within the room of their list
abbrev pub Held : ℕ → List Value → Type 0
Held room vs = (length vs ≤ MAX_STACK) × (length vs ≤ room)

-- a pair leaves the list the same
abbrev pub same_room : StackPair → ℕ → ℕ
same_room e room = room

-- so they are while the trail is put back
abbrev pub StaysHeld : ℕ → List StackPair → List Value → Type 0
StaysHeld room es vs = Stays stack_back same_room Held room es vs

-- the values as they stood at the mark, where one stands
unfoldable pub stack_stood : Stack → Option (List Value)
stack_stood s = stood_at stack_back s.trail s.items

-- how many changes more can be noted without memory
unfoldable pub stack_spare : Stack → ℕ
stack_spare s = spare s.trail
