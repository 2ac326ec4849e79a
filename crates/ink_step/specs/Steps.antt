-- How steps end, beside the definitions, and what opening and choosing come to.
use Rattle.std.specs.Prelude.{◌≡◌, ℕ, List, [], ◌∷◌, ◌⊎◌, ◌||◌, Bool, true, false, Option, Some, None, Result, Ok, Err}
use Rattle.ink_model.specs.Choices.Choosing.{chosen}
use Rattle.ink_model.specs.Run.Configuration.{ChoiceOf, Configuration}
use Rattle.ink_model.specs.Host.Events.{calls}
use Rattle.ink_model.specs.Host.Bindings.{Bound, turn_function}
use Rattle.ink_model.specs.Memory.Refusals.{ByRule, IsRefusedMemory, LacksMemory, OpensShort, answered_asks}
use Rattle.ink_model.specs.Run.Move.{Outcome, Next, Stop, Faults}
use Rattle.ink_model.specs.Run.Opening.{opening}
use Rattle.ink_model.specs.Run.Moments.{answered}
use Rattle.ink_model.specs.Run.Step.{Stepped, Comes, Wants}
use Rattle.ink_model.specs.Variables.Store.{Values}
use Rattle.ink_model.specs.Story.Tree.{StoryTree}
use Rattle.ink_model.specs.Run.Visits.{entering_around, entering_asks}
use Rattle.ink_model.specs.declared.fault.Fault.{Fault}
use Rattle.ink_model.specs.declared.fault.Fault.TheVariants.{OutOfMemory}
use Rattle.ink_model.specs.declared.fault.Refusal.{Refusal}
use Rattle.ink_model.specs.declared.fault.Refusal.TheVariants as refusal
use Rattle.ink_model.specs.declared.host.Event.{Event}
use Rattle.ink_model.specs.declared.host.Given.{Given}
use Rattle.ink_model.specs.declared.place.Part.{Part}
use Rattle.ink_effects.specs.External.{made_call}
use Rattle.ink_moves.specs.declared.flow.StepEnd.{StepEnd}
use Rattle.ink_moves.specs.declared.flow.StepEnd.TheVariants as ends

-- an outcome, or its fault
abbrev pub outcome_result : Outcome → Result Outcome Fault
outcome_result (Faults g) = Err g
outcome_result outcome = Ok outcome

-- a step that went on, or stopped, leaves the configuration of its outcome
abbrev pub HasOutcome : Configuration → Outcome → StepEnd → Type 0
HasOutcome new (Next c) ends.Went = new ≡ c
HasOutcome new (Stop c) ends.Stopped = new ≡ c
HasOutcome new outcome end = ⊥

-- A step ends as its outcome says; where it asks for memory, it may end with OutOfMemory instead. A fault leaves the globals
-- as they were.
abbrev pub StepEnds : Bool → Outcome → Values → Configuration → Result StepEnd Fault → Type 0
StepEnds asks outcome globals new result = ByRule (LacksMemory asks) (HasOutcome new) (λ why. why × (new.shared.globals ≡ globals)) (outcome_result outcome) result

-- a turn function is to be called
abbrev pub wants : Stepped → Bool
wants (Wants name arguments f d) = true
wants (Comes outcome) = false

-- that as the end of a step
abbrev pub step_end : Result Bool Fault → Result StepEnd Fault
step_end (Ok true) = Ok ends.Went
step_end (Ok false) = Ok ends.Stopped
step_end (Err f) = Err f

-- The same of a step that may call turn functions. It may also end with OutOfMemory where it is pressed: where a mark stands,
-- for which memory was refused. Where it wants a call, the name is bound to a turn function, which was called once, and the step
-- ends as with what it gave; or memory was refused before that, and nothing was called. The events of the step count on from a
-- stamp.
abbrev pub StepMakes : StoryTree → Bound → ℕ → Bool → Bool → Stepped → List Event → Values → Configuration → Result StepEnd Fault → Type 0
StepMakes s b n pressed asks (Wants name arguments f d) es globals new result =
    ((gave : Option Given) × (b name ≡ Some turn_function) × (es ≡ calls n (made_call name arguments gave ∷ [])) × StepEnds (pressed || answered_asks s arguments f d gave) (answered s f d gave) globals new result)
    ⊎ ((es ≡ []) × (new.shared.globals ≡ globals) × IsRefusedMemory (pressed || asks) result)
StepMakes s b n pressed asks (Comes outcome) es globals new result = (es ≡ []) × StepEnds (pressed || asks) outcome globals new result

-- A quiet step calls none: where it wants one, it says so and has changed nothing.
abbrev pub Steps : Bool → StoryTree → Bound → ℕ → Bool → Bool → Stepped → List Event → Values → Configuration → Configuration → Result StepEnd Fault → Type 0
Steps true s b n pressed asks (Wants name arguments f d) es globals old new result = (result ≡ Ok ends.WantsCall) × (es ≡ []) × (new ≡ old)
Steps quiet s b n pressed asks stepped es globals old new result = StepMakes s b n pressed asks stepped es globals new result

-- A step that wants no call ends so.
abbrev pub EndsPlainly : Bool → Stepped → Values → Configuration → Result StepEnd Fault → Type 0
EndsPlainly asks (Comes outcome) globals new result = StepEnds asks outcome globals new result
EndsPlainly asks (Wants name arguments f d) globals new result = ⊥

-- A story does not open: its declarations fault, with these globals, or a step of theirs asks for memory and gets none, before which
-- these were the globals.
abbrev pub FailsToOpen : StoryTree → Fault → Values → Type 0
FailsToOpen s f globals = (opening s ≡ Err (record { fault = f; globals = globals })) ⊎ ((f ≡ OutOfMemory) × ((short : OpensShort s) × (globals ≡ short.reached.shared.globals)))

-- how flow stands where a choice was taken, with the containers that its landing enters
abbrev pub choosing : StoryTree → Option (ChoiceOf (List Part)) → Configuration → Result Configuration Refusal
choosing s None c = Err refusal.NotAChoice
choosing s (Some choice) c = Ok (entering_around s (chosen choice c))

-- taking it asks for memory: for a first visit, or where that is lacked for something else
abbrev pub choosing_asks : StoryTree → Bool → Option (ChoiceOf (List Part)) → Configuration → Bool
choosing_asks s lacks None c = false
choosing_asks s lacks (Some choice) c = lacks || entering_asks s (chosen choice c)

-- A choice is taken; or there is none, or memory is refused for a first visit, and nothing has changed; where a mark stands, also for
-- the copy of the choice and for notes (Marks.antt).
abbrev pub Chooses : StoryTree → Bool → Option (ChoiceOf (List Part)) → Configuration → Configuration → Result (Unit {0}) Refusal → Type 0
Chooses s lacks choice old new result =
    ByRule (λ r. (r ≡ refusal.OutOfMemory) × (choosing_asks s lacks choice old ≡ true)) (λ c u. new ≡ c) (λ why. why × (new ≡ old)) (choosing s choice old) result
