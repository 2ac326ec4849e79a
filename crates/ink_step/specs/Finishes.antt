-- How a step ends by the content that is performed.
use Rattle.std.specs.Prelude.{◌≡◌, ◌||◌, ◌&&◌, Bool, List, Option, true, is_some, Result, Ok}
use Rattle.ink_model.specs.Choices.Choosing.{following, following_asks}
use Rattle.ink_model.specs.Memory.Asks.{acting_asks}
use Rattle.ink_model.specs.Memory.Moves.{move_asks}
use Rattle.ink_model.specs.Memory.Refusals.{content_asks}
use Rattle.ink_model.specs.Run.Effect.{Effect, context_of, fields_of}
use Rattle.ink_model.specs.Run.Move.{move}
use Rattle.ink_model.specs.Run.Step.{acted, effect}
use Rattle.ink_model.specs.Story.Tree.{StoryTree}
use Rattle.ink_model.specs.declared.fault.Fault.{Fault}
use Rattle.ink_model.specs.declared.place.Part.{Part}
use Rattle.ink_step.specs.Marks.{keeps_mark, pressed, stood_of, takes_there}
use Rattle.ink_effects.specs.Performs.{AsksToStore, KeepsThreads, KeepsChoices, Performs}
use Rattle.ink_step.specs.Steps.{StepEnds}
use Rattle.ink_step.specs.Standing.{config_of}
use Rattle.ink_moves.specs.declared.flow.StepEnd.{StepEnd}
use Rattle.ink_step.specs.declared.machine.Machine.{Machine}
use Rattle.ink_effects.specs.declared.transfer.Transfer.{Transfer}
use Rattle.ink_vars.specs.Undo.{globals_stood}

-- What stands at a place has its effect on the way from a machine to the next, and flow moves; where it stops it may follow a choice.
abbrev pub ActsThere : StoryTree → List Part → Option StoryTree → Machine → Machine → Result StepEnd Fault → Type 0
ActsThere s p there old new result = let c = config_of s old in let e = effect s p there (context_of c) (fields_of c) in
    StepEnds (((takes_there there && keeps_mark (stood_of old)) || pressed s new) || acting_asks s (content_asks s p there (context_of c) (fields_of c)) e c) (acted s e c) old.shared.globals.rows (config_of s new) result

-- An effect, for which memory is asked or not, is had on the way from a machine to the next, in the same way.
abbrev pub Acts : StoryTree → Bool → Effect → Machine → Machine → Result StepEnd Fault → Type 0
Acts s asks e old new result = let c = config_of s old in StepEnds (pressed s new || acting_asks s asks e c) (acted s e c) old.shared.globals.rows (config_of s new) result

-- A content was performed on the way from a machine to the next, and left this transfer: flow goes where the content sends it, may
-- follow a choice, and a global is stored.
abbrev pub Finishes : StoryTree → Machine → Transfer → Machine → Result StepEnd Fault → Type 0
Finishes s mid t new result = (old : Machine) (asks : Bool) (e : Effect) → Performs s asks e (fields_of (config_of s mid)) (Ok t) → KeepsThreads s e old.flow.threads.threads mid.flow.threads.threads → KeepsChoices s e old.flow.choices.items mid.flow.choices.items
    → mid.flow.safe ≡ old.flow.safe → mid.shared.counts.rows ≡ old.shared.counts.rows → mid.shared.turn ≡ old.shared.turn → mid.shared.globals.rows ≡ old.shared.globals.rows → (is_some (globals_stood mid.shared.globals) ≡ true → AsksToStore e asks) → let c = config_of s old in
    StepEnds (pressed s new || ((asks || move_asks s e c) || following_asks s (move s e c))) (following s (move s e c)) old.shared.globals.rows (config_of s new) result
