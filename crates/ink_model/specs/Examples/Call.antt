-- Calls in small steps, and the text of functions, each proved by computation (docs/FRAMES.md).
use Rattle.std.specs.Prelude.{◌≡◌, [], ◌∷◌, refl, codes, Bool, true, false, Some}
use Rattle.ink_model.specs.Examples.CallStories.{does, says, calls, story, after, now, fault_of, stack_in, threads_in, line_of, where_in, modes_in, main_at, in_f}
use Rattle.ink_model.specs.Run.Configuration.{fresh_at}
use Rattle.ink_model.specs.Run.Configuration.{start}
use Rattle.ink_model.specs.Run.Entered.{entered_places, passed_places}
use Rattle.ink_model.specs.Run.Moments.{run}
use Rattle.ink_model.specs.Run.Place.{content_place, landed, next_place}
use Rattle.ink_model.specs.Run.Step.{step}
use Rattle.ink_model.specs.Story.Path.{read_path, target}
use Rattle.ink_model.specs.Story.Tree.{StoryTree, leaf}
use Rattle.ink_model.specs.Text.Mark.{cut}
use Rattle.ink_model.specs.Text.Shown.{shown_text}
use Rattle.ink_model.specs.Values.Value.{is_true, printed}
use Rattle.ink_model.specs.declared.content.Control.TheVariants as control
use Rattle.ink_model.specs.declared.content.Destination.TheVariants as destination
use Rattle.ink_model.specs.declared.content.Leaf.TheVariants as leaves
use Rattle.ink_model.specs.declared.fault.Fault.TheVariants as fault
use Rattle.ink_model.specs.declared.mark.Mark.TheVariants.{Text, Newline, Enter, Leave}
use Rattle.ink_model.specs.declared.value.Value.TheVariants as value

-- ---- functions

abbrev gives_a_text : StoryTree
gives_a_text = story (does control.BeginEval ∷ calls (codes "f") ∷ does control.Out ∷ does control.EndEval ∷ leaf leaves.Newline ∷ []) (does control.BeginEval ∷ says (codes "x") ∷ does control.EndEval ∷ does control.Return ∷ []) ([])

-- a call that returns a value
a_value_returned : line_of (after 9 gives_a_text) ≡ Enter 0 ∷ Leave (Some 0) ∷ Text (codes "x") ∷ Newline ∷ []
unfolding run step start fresh_at content_place next_place read_path target landed cut printed is_true passed_places entered_places
a_value_returned = refl

abbrev runs_off : StoryTree
runs_off = story (does control.BeginEval ∷ calls (codes "f") ∷ does control.EndEval ∷ calls (codes "f") ∷ says (codes "y") ∷ []) (says (codes "x") ∷ []) ([])

-- the new frame is outside evaluation mode, and its caller stays where the call is
a_frame_of_its_own : modes_in (threads_in (now (after 2 runs_off))) ≡ false ∷ true ∷ []
unfolding run step start fresh_at content_place next_place read_path target landed cut printed is_true passed_places entered_places
a_frame_of_its_own = refl

-- flow comes to the new frame from the call, which stays the caller's place
places_in_a_call : where_in (threads_in (now (after 2 runs_off))) ≡ main_at 1 ∷ in_f 0 ∷ main_at 1 ∷ []
unfolding run step start fresh_at content_place next_place read_path target landed cut printed is_true passed_places entered_places
places_in_a_call = refl

-- off the end of a function void is pushed where the caller evaluates, and flow goes on after the call
off_the_end_in_evaluation : stack_in (now (after 3 runs_off)) ≡ value.Void ∷ []
unfolding run step start fresh_at content_place next_place read_path target landed cut printed is_true passed_places entered_places
off_the_end_in_evaluation = refl

off_the_end_goes_on : where_in (threads_in (now (after 3 runs_off))) ≡ main_at 1 ∷ main_at 2 ∷ []
unfolding run step start fresh_at content_place next_place read_path target landed cut printed is_true passed_places entered_places
off_the_end_goes_on = refl

-- and nothing is pushed where it does not
off_the_end_outside_evaluation : stack_in (now (after 6 runs_off)) ≡ value.Void ∷ []
unfolding run step start fresh_at content_place next_place read_path target landed cut printed is_true passed_places entered_places
off_the_end_outside_evaluation = refl

-- each call on a line has a number of its own
numbers_of_calls : line_of (after 6 runs_off) ≡ Enter 0 ∷ Text (codes "x") ∷ Leave (Some 0) ∷ Enter 1 ∷ Text (codes "x") ∷ Leave (Some 1) ∷ []
unfolding run step start fresh_at content_place next_place read_path target landed cut printed is_true passed_places entered_places
numbers_of_calls = refl

abbrev nested : StoryTree
nested = story (calls (codes "f") ∷ says (codes "y") ∷ []) (calls (codes "g") ∷ []) (says (codes "x") ∷ [])

-- nested functions end in one step
both_end : line_of (after 3 nested) ≡ Enter 0 ∷ Enter 1 ∷ Text (codes "x") ∷ Leave (Some 1) ∷ Leave (Some 0) ∷ []
unfolding run step start fresh_at content_place next_place read_path target landed cut printed is_true passed_places entered_places
both_end = refl

both_end_after_the_outer_call : where_in (threads_in (now (after 3 nested))) ≡ main_at 0 ∷ main_at 1 ∷ []
unfolding run step start fresh_at content_place next_place read_path target landed cut printed is_true passed_places entered_places
both_end_after_the_outer_call = refl

abbrev calls_if : Bool → StoryTree
calls_if = λ b. story (does control.BeginEval ∷ leaf (leaves.Bool b) ∷ does control.EndEval ∷ leaf (leaves.Call (destination.Path (codes "f")) true) ∷ says (codes "y") ∷ []) (says (codes "x") ∷ []) ([])

-- a conditional call is made where the condition is true
called_where_true : where_in (threads_in (now (after 4 (calls_if true)))) ≡ main_at 3 ∷ in_f 0 ∷ main_at 3 ∷ []
unfolding run step start fresh_at content_place next_place read_path target landed cut printed is_true passed_places entered_places
called_where_true = refl

not_called_where_false : where_in (threads_in (now (after 4 (calls_if false)))) ≡ main_at 3 ∷ main_at 4 ∷ []
unfolding run step start fresh_at content_place next_place read_path target landed cut printed is_true passed_places entered_places
not_called_where_false = refl

abbrev calls_a_variable : StoryTree
calls_a_variable = story (leaf (leaves.Call (destination.Variable (codes "v")) false) ∷ []) (says (codes "x") ∷ []) ([])

-- a variable that holds no target
call_of_no_target : fault_of (after 1 calls_a_variable) ≡ Some fault.BadTarget
unfolding run step start fresh_at content_place next_place read_path target landed cut printed is_true passed_places entered_places
call_of_no_target = refl

-- ---- the text of functions

abbrev with_newlines : StoryTree
with_newlines = story (says (codes "[") ∷ does control.BeginEval ∷ calls (codes "f") ∷ does control.Out ∷ does control.EndEval ∷ says (codes "]") ∷ leaf leaves.Newline ∷ []) (leaf leaves.Newline ∷ says (codes "x") ∷ leaf leaves.Newline ∷ []) ([])

-- a newline at a function's start is not written, and one at its end is hidden back to its Enter
newlines_of_a_function : line_of (after 10 with_newlines) ≡ Text (codes "[") ∷ Enter 0 ∷ Text (codes "x") ∷ Newline ∷ Leave (Some 0) ∷ Text (codes "]") ∷ Newline ∷ []
unfolding run step start fresh_at content_place next_place read_path target landed cut printed is_true passed_places entered_places
newlines_of_a_function = refl

shown_of_a_function : shown_text (line_of (after 10 with_newlines)) ≡ codes "[x]\n"
unfolding run step start fresh_at content_place next_place read_path target landed cut printed is_true passed_places entered_places
shown_of_a_function = refl

-- a Leave hides a newline back to its Enter, and none before that
hides_to_its_enter : shown_text (Text (codes "a") ∷ Newline ∷ Enter 0 ∷ Newline ∷ Leave (Some 0) ∷ Text (codes "b") ∷ []) ≡ codes "a\nb"
unfolding run step start fresh_at content_place next_place read_path target landed cut printed is_true passed_places entered_places
hides_to_its_enter = refl

abbrev writes_below : StoryTree
writes_below = story (calls (codes "f") ∷ []) (leaf leaves.Newline ∷ calls (codes "g") ∷ leaf leaves.Newline ∷ []) (says (codes "x") ∷ [])

-- a text ends the freshness of the functions below too
freshness_below : line_of (after 5 writes_below) ≡ Enter 0 ∷ Enter 1 ∷ Text (codes "x") ∷ Leave (Some 1) ∷ Newline ∷ Leave (Some 0) ∷ []
unfolding run step start fresh_at content_place next_place read_path target landed cut printed is_true passed_places entered_places
freshness_below = refl

abbrev writes_in_a_string : StoryTree
writes_in_a_string = story (calls (codes "f") ∷ []) (does control.BeginEval ∷ does control.BeginString ∷ says (codes "x") ∷ does control.EndString ∷ does control.EndEval ∷ leaf leaves.Newline ∷ []) ([])

-- a text in a string ends no freshness outside it
freshness_outside_a_string : line_of (after 7 writes_in_a_string) ≡ Enter 0 ∷ Leave (Some 0) ∷ []
unfolding run step start fresh_at content_place next_place read_path target landed cut printed is_true passed_places entered_places
freshness_outside_a_string = refl
