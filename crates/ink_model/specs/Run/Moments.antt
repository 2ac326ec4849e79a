-- A forward run, by its moments (docs/RUNNING.md, "Runs").
use Rattle.std.specs.Prelude.{◌≡◌, ℕ, zero, suc, List, [], ◌∷◌, ◌++◌, Option, Some, None}
use Rattle.ink_model.specs.declared.limits.TheConstants.{MAX_STEPS}
pub use Rattle.ink_model.specs.Host.Events.{Made, answers_of}
use Rattle.ink_model.specs.Host.Bindings.{Bound}
use Rattle.ink_model.specs.Run.Configuration.{Configuration, begun}
use Rattle.ink_model.specs.Run.Effect.{Fields}
use Rattle.ink_model.specs.Run.Move.{Outcome, Next, Stop, Faults}
use Rattle.ink_model.specs.Run.Step.{Bound, Stepped, Comes, Wants, acted, step}
use Rattle.ink_model.specs.Run.Step.Host.{answering}
use Rattle.ink_model.specs.Story.Tree.{StoryTree}
use Rattle.ink_model.specs.Variables.Store.{Values}
use Rattle.ink_model.specs.declared.fault.Fault.{Fault}
use Rattle.ink_model.specs.declared.fault.Fault.TheVariants.{OutOfSteps}
use Rattle.ink_model.specs.declared.host.Given.{Given}

-- a wanted call was answered, or refused: the answer is pushed, and flow goes on
abbrev pub answered : StoryTree → Fields → Configuration → Option Given → Outcome
answered s f c gave = acted s (answering gave f) c

-- ---- moments

-- How far a run is, the answers that are left, and the calls made. After a fault: the configuration before its step.
pub data Moment : Type 0 where
  At : (now : Configuration) → (left : List (Option Given)) → (made : List Made) → Moment
  Stopped : (after : Configuration) → (left : List (Option Given)) → (made : List Made) → Moment
  Faulted : (fault : Fault) → (before : Configuration) → (left : List (Option Given)) → (made : List Made) → Moment
  Waits : (name : List ℕ) → (made : List Made) → Moment

abbrev pub moment_after : Configuration → Outcome → List (Option Given) → List Made → Moment
moment_after c (Next d) left made = At d left made
moment_after c (Stop d) left made = Stopped d left made
moment_after c (Faults f) left made = Faulted f c left made

-- a wanted call takes the next answer; without one the run waits
abbrev pub came : StoryTree → Configuration → Stepped → List (Option Given) → List Made → Moment
came s c (Comes outcome) left made = moment_after c outcome left made
came s c (Wants name arguments f d) (a ∷ left) made =
    moment_after c (answered s f d a) left (made ++ record { name = name; arguments = arguments; gave = a } ∷ [])
came s c (Wants name arguments f d) [] made = Waits name made

-- the next moment; a run that has ended stays as it is
abbrev pub next : StoryTree → Bound → Moment → Moment
next s b (At c left made) = came s c (step s b c) left made
next s b (Stopped c left made) = Stopped c left made
next s b (Faulted f c left made) = Faulted f c left made
next s b (Waits name made) = Waits name made

unfoldable pub run : StoryTree → Bound → ℕ → Moment → Moment
run s b zero m = m
run s b (suc n) m = next s b (run s b n m)

-- the moment after n steps from a configuration, under answers
abbrev pub moment : StoryTree → Bound → Configuration → List (Option Given) → ℕ → Moment
moment s b c answers n = run s b n (At c answers [])

-- a run that needs one more step than it may take
abbrev pub cut_off : Moment → Moment
cut_off (At c left made) = Faulted OutOfSteps c left made
cut_off (Stopped c left made) = Stopped c left made
cut_off (Faulted f c left made) = Faulted f c left made
cut_off (Waits name made) = Waits name made

-- the run of a command to its end
abbrev pub through : StoryTree → Bound → Configuration → List (Option Given) → Moment
through s b c answers = cut_off (moment s b (begun c) answers MAX_STEPS)

-- ---- ends

-- How a running command ends: with the configuration that is kept, or with a fault, of which the globals stay.
pub data RunEnd : Type 0 where
  Kept : (configuration : Configuration) → RunEnd
  Broke : (fault : Fault) → (globals : Values) → RunEnd

-- the end of a run that used all its answers, with the calls that it made; none where it goes on or waits
abbrev pub end_of : Moment → Option (RunEnd × List Made)
end_of (Stopped c [] made) = Some (Kept c, made)
end_of (Faulted f c [] made) = Some (Broke f c.shared.globals, made)
end_of m = None

-- `through`, with these calls made, ends so
abbrev pub EndsThrough : StoryTree → Bound → Configuration → List Made → RunEnd → Type 0
EndsThrough s b c made end = end_of (through s b c (answers_of made)) ≡ Some (end, made)
