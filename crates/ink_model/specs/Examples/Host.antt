-- External functions in small steps, each proved by computation (docs/HOST.md, "Calls").
use Rattle.std.specs.Prelude.{◌≡◌, ℕ, pos, List, [], ◌∷◌, bytes_eq, refl, codes, Bool, true, false, not, if◌then◌else◌, Option, Some, None}
use Rattle.ink_model.specs.Examples.CallStories.{asks_in, does, fault_of, in_f, line_of, main_at, now, says, stack_in, story, threads_in, where_in}
use Rattle.ink_model.specs.Host.Bindings.{Bound, pure_function, turn_function}
use Rattle.ink_model.specs.Memory.Asks.{asks}
use Rattle.ink_model.specs.Run.Configuration.{Configuration, fresh_at, start}
use Rattle.ink_model.specs.Run.Effect.{Fails, Fields}
use Rattle.ink_model.specs.Run.Entered.{entered_places, passed_places}
use Rattle.ink_model.specs.Run.Moments.{Made, Moment, At, Stopped, Faulted, Waits, came, moment, run}
use Rattle.ink_model.specs.Run.Place.{content_place, knot, landed, next_place}
use Rattle.ink_model.specs.Run.Step.{Wants, step}
use Rattle.ink_model.specs.Run.Step.Host.{answering}
use Rattle.ink_model.specs.Story.Tree.{StoryTree, leaf}
use Rattle.ink_model.specs.Text.Bytes.{fits_text}
use Rattle.ink_model.specs.Text.Mark.{cut}
use Rattle.ink_model.specs.Values.Value.{is_true, printed}
use Rattle.ink_model.specs.declared.content.Control.TheVariants as control
use Rattle.ink_model.specs.declared.content.Leaf.TheVariants as leaves
use Rattle.ink_model.specs.declared.fault.Fault.TheVariants as fault
use Rattle.ink_model.specs.declared.host.Given.{Given}
use Rattle.ink_model.specs.declared.host.Given.TheVariants as given
use Rattle.ink_model.specs.declared.mark.Mark.TheVariants.{Text, Newline}
use Rattle.ink_model.specs.declared.value.Value.{Value}
use Rattle.ink_model.specs.declared.value.Value.TheVariants as value

-- ---- a host with a turn function and a pure one

-- a boolean has a contrary, and all else is refused
abbrev contrary : List Value → Option Given
contrary (value.Bool b ∷ []) = Some (given.Bool (not b))
contrary arguments = None

abbrev pub host : Bound
host name = if bytes_eq name (codes "roll") then Some turn_function else (if bytes_eq name (codes "contrary") then Some (pure_function contrary) else None)

abbrev pub external : List ℕ → ℕ → StoryTree
external name n = leaf (leaves.External name n false)

abbrev number : ℕ → StoryTree
number n = leaf (leaves.Int (pos n))

abbrev target : StoryTree
target = leaf (leaves.Target (codes "f"))

-- content in evaluation mode, with the knot `f` beside it
abbrev evaluating : List StoryTree → StoryTree
evaluating ts = story (does control.BeginEval ∷ ts) (says (codes "x") ∷ []) []

abbrev under : List (Option Given) → ℕ → StoryTree → Moment
under answers n s = moment s host (start s []) answers n

abbrev made_in : Moment → List Made
made_in (At c left made) = made
made_in (Stopped c left made) = made
made_in (Faulted f c left made) = made
made_in (Waits name made) = made

abbrev rolled : List Value → Option Given → Made
rolled arguments gave = record { name = codes "roll"; arguments = arguments; gave = gave }

abbrev seven : List (Option Given)
seven = Some (given.Int (pos 7)) ∷ []

-- ---- turn functions

abbrev rolls : StoryTree
rolls = evaluating (number 3 ∷ external (codes "roll") 1 ∷ does control.Out ∷ does control.EndEval ∷ leaf leaves.Newline ∷ [])

-- the answer takes the place of the arguments
an_answer_is_pushed : stack_in (now (under seven 3 rolls)) ≡ value.Int (pos 7) ∷ []
unfolding run step start fresh_at content_place next_place passed_places entered_places
an_answer_is_pushed = refl

an_answer_is_written : line_of (under (Some (given.Text (codes "seven")) ∷ []) 6 rolls) ≡ Text (codes "seven") ∷ Newline ∷ []
unfolding run step start fresh_at content_place next_place passed_places entered_places cut printed
an_answer_is_written = refl

a_call_is_made : made_in (under seven 3 rolls) ≡ rolled (value.Int (pos 3) ∷ []) (Some (given.Int (pos 7))) ∷ []
unfolding run step start fresh_at content_place next_place passed_places entered_places
a_call_is_made = refl

-- void is an answer too
nothing_to_say : stack_in (now (under (Some given.Void ∷ []) 3 rolls)) ≡ value.Void ∷ []
unfolding run step start fresh_at content_place next_place passed_places entered_places
nothing_to_say = refl

-- a refused call was made
a_refusal : fault_of (under (None ∷ []) 3 rolls) ≡ Some fault.HostRefused
unfolding run step start fresh_at content_place next_place passed_places entered_places
a_refusal = refl

a_refused_call : made_in (under (None ∷ []) 3 rolls) ≡ rolled (value.Int (pos 3) ∷ []) None ∷ []
unfolding run step start fresh_at content_place next_place passed_places entered_places
a_refused_call = refl

-- and so was one whose answer is too long
a_text_too_long : (s : StoryTree) (c calling : Configuration) (f : Fields) (t : List ℕ) → fits_text t ≡ false
    → came s c (Wants (codes "roll") [] f calling) (Some (given.Text t) ∷ []) [] ≡ Faulted fault.TooDeep c [] (rolled [] (Some (given.Text t)) ∷ [])
a_text_too_long s c calling f t long = rw long refl

-- without an answer the run waits
no_answer_left : under [] 3 rolls ≡ Waits (codes "roll") []
unfolding run step start fresh_at content_place next_place passed_places entered_places
no_answer_left = refl

-- ---- arguments

-- the arguments stand in the order in which they were written, and what is below them stays
arguments_in_order : made_in (under seven 5 (evaluating (number 1 ∷ number 2 ∷ number 3 ∷ external (codes "roll") 2 ∷ [])))
    ≡ rolled (value.Int (pos 2) ∷ value.Int (pos 3) ∷ []) (Some (given.Int (pos 7))) ∷ []
unfolding run step start fresh_at content_place next_place passed_places entered_places
arguments_in_order = refl

below_the_arguments : stack_in (now (under seven 5 (evaluating (number 1 ∷ number 2 ∷ number 3 ∷ external (codes "roll") 2 ∷ [])))) ≡ value.Int (pos 1) ∷ value.Int (pos 7) ∷ []
unfolding run step start fresh_at content_place next_place passed_places entered_places
below_the_arguments = refl

-- a target is no argument
a_bad_argument : fault_of (under seven 3 (evaluating (target ∷ external (codes "roll") 1 ∷ []))) ≡ Some fault.BadOperands
unfolding run step start fresh_at content_place next_place passed_places entered_places
a_bad_argument = refl

-- all are popped before their kinds are looked at
too_few_arguments : fault_of (under seven 3 (evaluating (target ∷ external (codes "roll") 2 ∷ []))) ≡ Some fault.StackEmpty
unfolding run step start fresh_at content_place next_place passed_places entered_places
too_few_arguments = refl

-- and an open string comes before both
in_a_string : fault_of (under seven 3 (evaluating (does control.BeginString ∷ external (codes "roll") 1 ∷ []))) ≡ Some fault.UnsafeInString
unfolding run step start fresh_at content_place next_place passed_places entered_places
in_a_string = refl

-- none of these calls was made
no_call_in_a_string : made_in (under seven 3 (evaluating (does control.BeginString ∷ external (codes "roll") 1 ∷ []))) ≡ []
unfolding run step start fresh_at content_place next_place passed_places entered_places
no_call_in_a_string = refl

-- ---- pure functions

-- a pure function is asked in a string, and that is no call
abbrev asks_in_a_string : StoryTree
asks_in_a_string = evaluating (does control.BeginString ∷ does control.BeginEval ∷ leaf (leaves.Bool true) ∷ external (codes "contrary") 1 ∷ does control.Out ∷ does control.EndEval ∷ does control.EndString ∷ [])

asked_in_a_string : stack_in (now (under [] 8 asks_in_a_string)) ≡ value.Text (codes "false") ∷ []
unfolding run step start fresh_at content_place next_place passed_places entered_places cut printed
asked_in_a_string = refl

asking_is_no_call : made_in (under [] 8 asks_in_a_string) ≡ []
unfolding run step start fresh_at content_place next_place passed_places entered_places cut printed
asking_is_no_call = refl

a_pure_refusal : fault_of (under [] 3 (evaluating (number 4 ∷ external (codes "contrary") 1 ∷ []))) ≡ Some fault.HostRefused
unfolding run step start fresh_at content_place next_place passed_places entered_places cut
a_pure_refusal = refl

a_long_pure_answer : (f : Fields) (t : List ℕ) → fits_text t ≡ false → answering (Some (given.Text t)) f ≡ Fails fault.TooDeep
a_long_pure_answer f t long = rw long refl

-- ---- names that are not bound

-- the knot of that name is called, with the arguments left on the stack
falls_back : where_in (threads_in (now (under [] 3 (evaluating (number 5 ∷ external (codes "f") 1 ∷ []))))) ≡ main_at 2 ∷ in_f 0 ∷ main_at 2 ∷ []
unfolding run step start fresh_at content_place next_place passed_places entered_places knot landed
falls_back = refl

arguments_stay : stack_in (now (under [] 3 (evaluating (number 5 ∷ external (codes "f") 1 ∷ [])))) ≡ value.Int (pos 5) ∷ []
unfolding run step start fresh_at content_place next_place passed_places entered_places knot landed
arguments_stay = refl

-- in a string too
falls_back_in_a_string : stack_in (now (under [] 4 (evaluating (number 5 ∷ does control.BeginString ∷ external (codes "f") 1 ∷ [])))) ≡ value.Int (pos 5) ∷ []
unfolding run step start fresh_at content_place next_place passed_places entered_places knot landed
falls_back_in_a_string = refl

no_such_name : fault_of (under [] 2 (evaluating (external (codes "h") 1 ∷ []))) ≡ Some fault.Unbound
unfolding run step start fresh_at content_place next_place passed_places entered_places knot
no_such_name = refl

-- ---- conditions

abbrev where_so : Bool → StoryTree
where_so b = evaluating (number 3 ∷ leaf (leaves.Bool b) ∷ leaf (leaves.External (codes "roll") 1 true) ∷ [])

-- a condition that is false is popped, and the arguments stay
not_where_false : stack_in (now (under seven 4 (where_so false))) ≡ value.Int (pos 3) ∷ []
unfolding run step start fresh_at content_place next_place passed_places entered_places is_true
not_where_false = refl

no_call_where_false : made_in (under seven 4 (where_so false)) ≡ []
unfolding run step start fresh_at content_place next_place passed_places entered_places is_true
no_call_where_false = refl

where_it_is_true : stack_in (now (under seven 4 (where_so true))) ≡ value.Int (pos 7) ∷ []
unfolding run step start fresh_at content_place next_place passed_places entered_places is_true
where_it_is_true = refl

-- ---- memory

-- a call asks for memory, and a fault that comes before it does not
a_call_asks : asks_in rolls host (now (under [] 2 rolls)) ≡ true
unfolding run step start fresh_at content_place next_place passed_places entered_places asks
a_call_asks = refl

no_call_asks_in_a_string : let s = evaluating (number 1 ∷ does control.BeginString ∷ external (codes "roll") 1 ∷ []) in asks_in s host (now (under [] 3 s)) ≡ false
unfolding run step start fresh_at content_place next_place passed_places entered_places asks
no_call_asks_in_a_string = refl
