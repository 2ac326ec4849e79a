-- What calls of external functions come to (docs/HOST.md, "Calls").
use Rattle.std.specs.Prelude.{ℕ, ◌-◌, nat_le, List, length, take, drop, Bool, true, false, if◌then◌else◌, Option, Some, None, Result, Ok, Err}
use Rattle.std.specs.List.{list_all, list_any}
use Rattle.ink_model.specs.Host.Bindings.{Binding, Bound, turn_function, pure_function, fits_given, value_given}
use Rattle.ink_model.specs.Run.Effect.{Fields, Effect, Calls, Fails, Moves, or_else, or_fault, pushing}
use Rattle.ink_model.specs.Run.Place.{knot, landed}
use Rattle.ink_model.specs.Run.Step.Diverts.{condition}
use Rattle.ink_model.specs.Story.Tree.{StoryTree, leaf}
use Rattle.ink_model.specs.Text.Output.{is_string}
use Rattle.ink_model.specs.Text.Page.{Section}
use Rattle.ink_model.specs.declared.content.Leaf.TheVariants as leaves
use Rattle.ink_model.specs.declared.fault.Fault.{Fault}
use Rattle.ink_model.specs.declared.fault.Fault.TheVariants.{BadOperands, HostRefused, StackEmpty, TooDeep, Unbound, UnsafeInString}
use Rattle.ink_model.specs.declared.frame.FrameKind.TheVariants.{Function}
use Rattle.ink_model.specs.declared.host.Given.{Given}
use Rattle.ink_model.specs.declared.value.Value.{Value}
use Rattle.ink_model.specs.declared.value.Value.TheVariants as value

-- ---- calls

-- a call of an external function: its name, the number of its arguments, and whether a condition decides
pub record Call : Type 0 where
  pub name : List ℕ
  pub arguments : ℕ
  pub conditional : Bool

-- the call that stands at a place, if one does
abbrev pub call_at : Option StoryTree → Option Call
call_at (Some (leaf (leaves.External name arguments conditional))) = Some (record { name = name; arguments = arguments; conditional = conditional })
call_at found = None

-- What a call comes to: an effect, as other content has; or a turn function is to be called, with the arguments taken.
pub data CallEffect : Type 0 where
  Acts : (effect : Effect) → CallEffect
  Suspends : (name : List ℕ) → (arguments : List Value) → (after : Fields) → CallEffect

-- what comes of a result, or its fault
abbrev pub or_fails : {A : Type 0} → Result A Fault → (A → CallEffect) → CallEffect
or_fails (Ok a) so = so a
or_fails (Err f) so = Acts (Fails f)

-- ---- what a call takes

-- integers, booleans and texts
abbrev pub is_argument : Value → Bool
is_argument (value.Int z) = true
is_argument (value.Bool b) = true
is_argument (value.Text t) = true
is_argument (value.Target p) = false
is_argument (value.Pointer i name) = false
is_argument value.Void = false
is_argument (value.Tag t) = false

-- the values on top of a stack, in the order in which they were written, and those below; nothing where there are not so many
abbrev pub arguments_on : ℕ → List Value → Option (List Value × List Value)
arguments_on n vs = if nat_le n (length vs) then Some (drop (length vs - n) vs, take (length vs - n) vs) else None

-- the arguments are all popped before their kinds are looked at
abbrev pub arguments_of : Option (List Value × List Value) → Fields → Result (List Value × Fields) Fault
arguments_of None f = Err StackEmpty
arguments_of (Some r) f = if list_all is_argument r.0 then Ok (r.0, record f { stack = r.1 }) else Err BadOperands

abbrev pub arguments_taken : ℕ → Fields → Result (List Value × Fields) Fault
arguments_taken n f = arguments_of (arguments_on n f.stack) f

-- ---- what a call gives

-- an answer is pushed within the limits of a text and of the stack; a refusal is a fault
abbrev pub answering : Option Given → Fields → Effect
answering None f = Fails HostRefused
answering (Some g) f = if fits_given g then pushing (value_given g) f else Fails TooDeep

-- ---- what calls come to

-- a string section is open
abbrev pub has_string : List Section → Bool
has_string sections = list_any is_string sections

-- what is not bound calls the knot of that name, with its arguments left where they are
abbrev pub fall_back : StoryTree → List ℕ → Fields → Effect
fall_back s name f = or_else Unbound (knot name s) (λ p. Calls Function (record { place = landed s p; enters = true }) f)

abbrev pub ask_pure : (List Value → Option Given) → ℕ → Fields → Effect
ask_pure answers n f = or_fault (arguments_taken n f) (λ r. answering (answers r.0) r.1)

abbrev pub call_bound : StoryTree → Option Binding → List ℕ → ℕ → Fields → CallEffect
call_bound s None name n f = Acts (fall_back s name f)
call_bound s (Some turn_function) name n f = if has_string f.page.sections then Acts (Fails UnsafeInString) else or_fails (arguments_taken n f) (λ r. Suspends name r.0 r.1)
call_bound s (Some (pure_function answers)) name n f = Acts (ask_pure answers n f)

abbrev pub call_external : StoryTree → Bound → List ℕ → ℕ → Bool → Fields → CallEffect
call_external s b name n conditional f = or_fails (condition conditional f) (λ r. if r.0 then call_bound s (b name) name n r.1 else Acts (Moves r.1))
