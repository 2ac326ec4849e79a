-- How runs of steps end, with the calls that they made.
use Rattle.std.specs.Prelude.{◌≡◌, ◌<◌, ◌⊎◌, ◌∷◌, ◌++◌, ℕ, List, [], Bool, true, Option, Some, Result, Ok, Err}
use Rattle.std.specs.List.{AllByRecursion}
use Rattle.ink_model.specs.Run.Configuration.{Configuration}
use Rattle.ink_model.specs.Run.Effect.{Fields}
use Rattle.ink_model.specs.Host.Bindings.{Bound, turn_function}
use Rattle.ink_model.specs.Memory.Refusals.{CallsAt, GetsTo}
use Rattle.ink_model.specs.Run.Moments as run
use Rattle.ink_model.specs.Run.Moments.{At, Faulted, Made, answers_of, cut_off, moment}
use Rattle.ink_model.specs.Run.Step.{Wants, step}
use Rattle.ink_model.specs.Variables.Store.{Values}
use Rattle.ink_model.specs.Story.Tree.{StoryTree}
use Rattle.ink_model.specs.declared.fault.Fault.{Fault}
use Rattle.ink_model.specs.declared.fault.Fault.TheVariants.{OutOfMemory}
use Rattle.ink_model.specs.declared.host.Given.{Given}
use Rattle.ink_model.specs.declared.limits.TheConstants.{MAX_STEPS}
use Rattle.ink_model.specs.declared.value.Value.{Value}
use Rattle.ink_step.specs.Marks.{takes_first}

-- what is called is bound to a turn function
abbrev pub AreBound : Bound → List Made → Type 0
AreBound b made = AllByRecursion (λ m. b m.name ≡ Some turn_function) made

-- A run got to a configuration whose step takes a value off the stack and keeps it, and so copies values while a mark stands,
-- within the steps of a command.
pub record TakesAt (s : StoryTree) (b : Bound) (c : Configuration) (made : List Made) (reached : Configuration) : Type 0 where
  pub steps : ℕ
  pub within : steps < MAX_STEPS
  pub got_there : moment s b c (answers_of made) steps ≡ At reached [] made
  pub takes : takes_first s reached ≡ true

-- the calls that a step may have made: none, or the one that it wants, however that was answered
abbrev pub StepCalls : StoryTree → Bound → Configuration → List Made → Type 0
StepCalls s b c made = (made ≡ [])
    ⊎ ((name : List ℕ) × (arguments : List Value) × (gave : Option Given) × (f : Fields) × (d : Configuration)
    × (step s b c ≡ Wants name arguments f d) × (made ≡ (record { name = name; arguments = arguments; gave = gave }) ∷ []))

-- A run got to a configuration whose step a mark may press, within the steps of a command. The calls are those before that step, and
-- what it called.
pub record PressedAt (s : StoryTree) (b : Bound) (c : Configuration) (made : List Made) (reached : Configuration) : Type 0 where
  pub steps : ℕ
  pub within : steps < MAX_STEPS
  pub before : List Made
  pub got_there : moment s b c (answers_of before) steps ≡ At reached [] before
  pub last : List Made
  pub step_calls : StepCalls s b reached last
  pub calls : made ≡ before ++ last

-- A run, with these calls made, ended with a fault, or memory was refused to a step that asks for it, or for what came of its
-- last call, at a configuration with these globals. While a mark stands memory may be refused for the copy of a value, and where
-- the machine is pressed by it, for that, to a step that the run got to.
pub record RunFalls (s : StoryTree) (b : Bound) (marked pressed : Bool) (start : Configuration) (made : List Made) (globals : Values) (f : Fault) : Type 0 where
  pub before : Configuration
  pub kept : globals ≡ before.shared.globals
  pub why : (cut_off (moment s b start (answers_of made) MAX_STEPS) ≡ Faulted f before [] made)
      ⊎ ((f ≡ OutOfMemory)
      × ((GetsTo s b start made before ⊎ CallsAt s b start made before) ⊎ ((TakesAt s b start made before × (marked ≡ true)) ⊎ (PressedAt s b start made before × (pressed ≡ true)))))

-- A run, with these calls made, to its stop, with what it leaves, or to a fault, with the globals that it leaves.
abbrev pub RunsToStop : StoryTree → Bound → Bool → Bool → Configuration → List Made → Configuration → Result (Unit {0}) Fault → Type 0
RunsToStop s b marked pressed old made new (Ok u) = moment s b old (answers_of made) MAX_STEPS ≡ run.Stopped new [] made
RunsToStop s b marked pressed old made new (Err f) = RunFalls s b marked pressed old made new.shared.globals f
