-- Where memory may be refused, and what is answered then (docs/RUNNING.md, "Out of memory").
use Rattle.std.specs.Prelude.{◌≡◌, ◌<◌, ◌⊎◌, ℕ, suc, List, [], ◌∷◌, ◌++◌, length, nat_lt, Bool, true, false, not, ◌&&◌, ◌||◌, Option, Some, None, Result, Ok, Err, OnErr}
unfoldable pub use Rattle.ink_model.specs.Memory.Asks.{acting_asks, asks, asks_at, asks_for, content_asks, control_asks, going_in_asks, has_top, is_found_late, leaf_asks, offer_asks, operator_asks, output_asks, visit_asks}
use Rattle.ink_model.specs.Choices.Making.{has_any}
use Rattle.ink_model.specs.Host.Bindings.{Bound, nothing_bound, value_given}
use Rattle.ink_model.specs.Run.Ahead.{writes_words}
use Rattle.ink_model.specs.Run.Configuration.{Configuration, begun}
use Rattle.ink_model.specs.Run.Effect.{Fields}
use Rattle.ink_model.specs.Run.Line.{NoneBelow, NoneOpen, StaysOpen, is_call}
use Rattle.ink_model.specs.Run.Moments.{At, Made, answers_of, moment}
use Rattle.ink_model.specs.Run.Opening.{declaring}
use Rattle.ink_model.specs.Run.Step.{Wants, step}
use Rattle.ink_model.specs.Run.Step.Host.{answering}
use Rattle.ink_model.specs.Story.Tree.{StoryTree}
use Rattle.ink_model.specs.Variables.Store.{Values}
use Rattle.ink_model.specs.declared.fault.Fault.{Fault}
use Rattle.ink_model.specs.declared.fault.Fault.TheVariants.{OutOfMemory}
use Rattle.ink_model.specs.declared.host.Given.{Given}
use Rattle.ink_model.specs.declared.limits.TheConstants.{MAX_STACK, MAX_STEPS}
use Rattle.ink_model.specs.declared.value.Value.{Value}
use Rattle.ink_model.specs.declared.value.Value.TheVariants as value

-- ---- calls

-- memory was refused, where it may be
abbrev pub LacksMemory : Bool → Fault → Type 0
LacksMemory asks f = (f ≡ OutOfMemory) × (asks ≡ true)

-- A call was refused memory, where it may be.
abbrev pub IsRefusedMemory : {A : Type 0} → Bool → Result A Fault → Type 0
IsRefusedMemory asks result = (result ≡ Err OutOfMemory) × (asks ≡ true)

-- What a call comes to by its rule. Where the rule gives something, the call gives what goes with it, or memory was refused; where
-- the rule has a fault, that is the call's, or memory was refused before it was found. `keeps` says of the cause of a failed call
-- what that call leaves.
abbrev pub ByRule : {A B F : Type 0} → (F → Type 0) → (A → B → Type 0) → (Type 0 → Type 0) → Result A F → Result B F → Type 0
ByRule lacks gives keeps (Ok a) (Ok b) = gives a b
ByRule lacks gives keeps (Ok a) (Err f) = keeps (lacks f)
ByRule lacks gives keeps (Err g) (Ok b) = ⊥
ByRule lacks gives keeps (Err g) (Err f) = keeps ((f ≡ g) ⊎ lacks f)

-- A call's result is that of the rule; or it is refused memory, where the rule asks for it.
abbrev pub Gives : {A : Type 0} → Result A Fault → Result A Fault → Type 0
Gives (Ok a) rule = rule ≡ Ok a
Gives (Err f) rule = LacksMemory (asks_for rule) f ⊎ (rule ≡ Err f)

-- what a call leaves, where it did not fail
abbrev pub leaving : {A S : Type 0} → S → Result A Fault → Result S Fault
leaving new (Ok a) = Ok new
leaving new (Err f) = Err f

-- The same of a call that changes something: it leaves what the rule gives, and after an error nothing has changed.
abbrev pub Leaves : {A S : Type 0} → Result S Fault → S → S → Result A Fault → Type 0
Leaves rule old new result = Gives (leaving new result) rule × OnErr result (new ≡ old)

-- what a call hands out and leaves, where it did not fail
abbrev pub handing : {A S : Type 0} → S → Result A Fault → Result (A × S) Fault
handing new (Ok a) = Ok (a, new)
handing new (Err f) = Err f

-- The same of a call that also hands something out.
abbrev pub Hands : {A S : Type 0} → Result (A × S) Fault → S → S → Result A Fault → Type 0
Hands rule old new result = Gives (handing new result) rule × OnErr result (new ≡ old)

-- ---- values

-- a copy of the value takes memory
abbrev pub holds_memory : Value → Bool
holds_memory (value.Int z) = false
holds_memory (value.Bool b) = false
holds_memory (value.Text t) = true
holds_memory (value.Target p) = true
holds_memory (value.Pointer i n) = true
holds_memory value.Void = false
holds_memory (value.Tag t) = true

-- ---- answered calls

-- What was given asks for memory: for a copy of it, or where it takes the place of no argument and there is room for it.
abbrev pub given_asks : List Value → Fields → Option Given → Bool
given_asks arguments f None = false
given_asks arguments f (Some g) = holds_memory (value_given g) || (not (has_any arguments) && nat_lt (length f.stack) MAX_STACK)

-- the answer of a wanted call asks for memory, or where flow goes after it
abbrev pub answered_asks : StoryTree → List Value → Fields → Configuration → Option Given → Bool
answered_asks s arguments f c gave = acting_asks s (given_asks arguments f gave) (answering gave f) c

-- ---- runs

-- A run got to a configuration whose step asks for memory, within the steps of a command.
pub record GetsTo (s : StoryTree) (b : Bound) (c : Configuration) (made : List Made) (reached : Configuration) : Type 0 where
  pub steps : ℕ
  pub within : steps < MAX_STEPS
  pub got_there : moment s b c (answers_of made) steps ≡ At reached [] made
  pub asking : asks s b reached ≡ true

-- A run got to a configuration whose step called a turn function, whose answer asks for memory. That call is the last of those
-- made.
pub record CallsAt (s : StoryTree) (b : Bound) (c : Configuration) (made : List Made) (reached : Configuration) : Type 0 where
  pub steps : ℕ
  pub within : steps < MAX_STEPS
  pub before : List Made
  pub got_there : moment s b c (answers_of before) steps ≡ At reached [] before
  pub name : List ℕ
  pub arguments : List Value
  pub given : Given
  pub fields : Fields
  pub calling : Configuration
  pub wants : step s b reached ≡ Wants name arguments fields calling
  pub calls : made ≡ before ++ (record { name = name; arguments = arguments; gave = Some given }) ∷ []
  pub asking : answered_asks s arguments fields calling (Some given) ≡ true

-- The run of a command, with these calls made, got as far as a step of it for which memory was refused, before which the globals had
-- these values.
pub record FallsShort (s : StoryTree) (b : Bound) (c : Configuration) (made : List Made) (globals : Values) : Type 0 where
  pub reached : Configuration
  pub got_there : GetsTo s b (begun c) made reached ⊎ CallsAt s b (begun c) made reached
  pub leaves : globals ≡ reached.shared.globals

-- ---- lines

-- A run got to a configuration up to which the newline of a step stays open, and whose step calls no turn function and writes no text
-- of more than white: there memory is asked for to come back to that newline. What is kept is the configuration behind it.
pub record LooksFrom (s : StoryTree) (b : Bound) (c : Configuration) (made : List Made) (kept : Configuration) : Type 0 where
  pub steps : ℕ
  pub within : steps < MAX_STEPS
  pub reached : Configuration
  pub got_there : moment s b c (answers_of made) steps ≡ At reached [] made
  pub calls_nothing : is_call (step s b reached) ≡ false
  pub writes_none : writes_words s reached ≡ false
  pub step : ℕ
  pub opens : StaysOpen s b (moment s b c (answers_of made)) step steps
  pub first : NoneBelow s b MAX_STEPS (moment s b c (answers_of made)) step
  pub goes_back : moment s b c (answers_of made) (suc step) ≡ At kept [] made

-- no step of a run up to there has a firm newline, and none is open there
abbrev pub NoneSoFar : StoryTree → Bound → Configuration → List Made → ℕ → Type 0
NoneSoFar s b c made steps = NoneBelow s b MAX_STEPS (moment s b c (answers_of made)) steps × NoneOpen s b (moment s b c (answers_of made)) steps

-- The line of a command, with these calls made, got as far as a step for which memory was refused, and leaves these globals: with
-- no newline open those before that step, as a run does; while it looked on from one, those behind that newline.
pub record LineFallsShort (s : StoryTree) (b : Bound) (c : Configuration) (made : List Made) (globals : Values) : Type 0 where
  pub kept : Configuration
  pub got_there : ((got : GetsTo s b (begun c) made kept) × NoneSoFar s b (begun c) made got.steps)
      ⊎ (((got : CallsAt s b (begun c) made kept) × NoneSoFar s b (begun c) made got.steps) ⊎ LooksFrom s b (begun c) made kept)
  pub leaves : globals ≡ kept.shared.globals

-- ---- opening

-- the run of a story's declarations got to a step that asks for memory
pub record OpensShort (s : StoryTree) : Type 0 where
  pub first : Configuration
  pub declares : declaring s ≡ Some first
  pub reached : Configuration
  pub got_there : GetsTo s nothing_bound (begun first) [] reached
