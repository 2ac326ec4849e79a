-- Lines of small stories, each proved by computation (docs/RUNNING.md, "Lines"). What a search within so many steps comes to is the
-- line within them (`SearchesFind`).
use Rattle.std.specs.Prelude.{◌≡◌, ℕ, pos, List, [], ◌∷◌, ◌++◌, refl, codes, bytes_eq, false, if◌then◌else◌, Option, Some, None}
use Rattle.std.specs.Fmt.{digits}
use Rattle.ink_model.specs.Examples.CallStories.{calls, does, list, says, story}
use Rattle.ink_model.specs.Text.Clean.{clean}
use Rattle.ink_model.specs.Run.Configuration.{Configuration, begun, fresh_at, settled, start}
use Rattle.ink_model.specs.Run.Entered.{entered_places, passed_places}
use Rattle.ink_model.specs.Host.Bindings.{Bound, turn_function}
use Rattle.ink_model.specs.Text.Mark.{cut}
use Rattle.ink_model.specs.Story.Path.{read_path, target}
use Rattle.ink_model.specs.Run.Place.{content_place, landed, next_place}
use Rattle.ink_model.specs.Run.Moments.{Made, Moment, At, Stopped, Faulted, Waits, run}
use Rattle.ink_model.specs.Run.Step.{step}
use Rattle.ink_model.specs.Story.Tree.{StoryTree, leaf}
use Rattle.ink_model.specs.Values.Value.{printed}
use Rattle.ink_model.specs.declared.content.Control.TheVariants as control
use Rattle.ink_model.specs.declared.content.Leaf.TheVariants as leaves
use Rattle.ink_model.specs.declared.fault.Fault.{Fault}
use Rattle.ink_model.specs.declared.fault.Fault.TheVariants as fault
use Rattle.ink_model.specs.declared.host.Given.{Given}
use Rattle.ink_model.specs.declared.host.Given.TheVariants as given
use Rattle.ink_model.specs.declared.mark.Mark.{Mark}
use Rattle.ink_model.specs.declared.mark.Mark.TheVariants.{Text, Newline, Glue, Tag, Enter, Leave}
use Rattle.ink_line.specs.Look.{Seeking, found, search}

-- ---- small stories

abbrev a : StoryTree
a = says (codes "a")

abbrev b : StoryTree
b = says (codes "b")

abbrev newline : StoryTree
newline = leaf leaves.Newline

abbrev glue : StoryTree
glue = leaf leaves.Glue

abbrev number : StoryTree
number = leaf (leaves.Int (pos 7))

-- `roll` is a turn function
abbrev host : Bound
host name = if bytes_eq name (codes "roll") then Some turn_function else None

abbrev roll : StoryTree
roll = leaf (leaves.External (codes "roll") 0 false)

abbrev end_eval : StoryTree
end_eval = does control.EndEval

-- in evaluation mode
abbrev evaluated : List StoryTree → List StoryTree
evaluated content = does control.BeginEval ∷ content ++ end_eval ∷ []

-- a string with such content, whose value is dropped
abbrev dropped : List StoryTree → List StoryTree
dropped content = evaluated (does control.BeginString ∷ content ++ does control.EndString ∷ does control.Pop ∷ [])

abbrev tagged : List StoryTree → List StoryTree
tagged content = does control.BeginTag ∷ content ++ does control.EndTag ∷ []

-- ---- what is looked at: how the line ended, the marks that it kept, and which

-- it was cut before more; or all of the run is kept, up to its stop; or it faulted, or waits for an answer
data Ended : Type 0 where
  Cut : (marks : List Mark) → Ended
  Whole : (marks : List Mark) → Ended
  Broken : (fault : Fault) → Ended
  Waiting : Ended

abbrev ended : Moment → Ended
ended (At c left made) = Cut c.page.line
ended (Stopped c left made) = Whole c.page.line
ended (Faulted f c left made) = Broken f
ended (Waits name made) = Waiting

abbrev searched : StoryTree → Configuration → List (Option Given) → ℕ → Moment
searched s c answers n = found (search s host n (Seeking (At (begun c) answers [])))

-- the line of a story within so many steps, under these answers
abbrev line_with : List (Option Given) → ℕ → StoryTree → Moment
line_with answers n s = searched s (start s []) answers n

abbrev line : ℕ → List StoryTree → Ended
line n main = ended (line_with [] n (story main [] []))

-- the same where the first container calls `f`
abbrev line_of : ℕ → List StoryTree → List StoryTree → Ended
line_of n main f = ended (line_with [] n (story main f []))

abbrev a_line : List Mark
a_line = Text (codes "a") ∷ Newline ∷ []

-- ---- what makes a newline firm

by_a_text : line 9 (a ∷ newline ∷ b ∷ newline ∷ []) ≡ Cut a_line
unfolding search run step start fresh_at content_place next_place passed_places entered_places cut
by_a_text = refl

by_a_value : line 9 (a ∷ newline ∷ evaluated (number ∷ does control.Out ∷ [])) ≡ Cut a_line
unfolding search run step start fresh_at content_place next_place passed_places entered_places cut printed digits
by_a_value = refl

by_a_tag : line 9 (a ∷ newline ∷ tagged (b ∷ [])) ≡ Cut a_line
unfolding search run step start fresh_at content_place next_place passed_places entered_places cut clean
by_a_tag = refl

-- which is not made, and needs no answer
by_a_call : line 9 (a ∷ newline ∷ roll ∷ []) ≡ Cut a_line
unfolding search run step start fresh_at content_place next_place passed_places entered_places cut
by_a_call = refl

by_a_fault : line 9 (a ∷ newline ∷ end_eval ∷ b ∷ []) ≡ Cut a_line
unfolding search run step start fresh_at content_place next_place passed_places entered_places cut
by_a_fault = refl

by_the_last_step : line 2 (a ∷ newline ∷ b ∷ []) ≡ Cut a_line
unfolding search run step start fresh_at content_place next_place passed_places entered_places cut
by_the_last_step = refl

-- a text that stops flow with its step is one, too
by_a_text_that_stops : ended (line_with [] 9 (list (a ∷ newline ∷ b ∷ []))) ≡ Cut a_line
unfolding search run step start fresh_at content_place next_place passed_places entered_places cut
by_a_text_that_stops = refl

-- blanks make nothing firm
by_what_follows_a_blank : line 9 (a ∷ newline ∷ says (codes " ") ∷ b ∷ []) ≡ Cut a_line
unfolding search run step start fresh_at content_place next_place passed_places entered_places cut
by_what_follows_a_blank = refl

-- nor does an end of a function whose text the newline is not in
behind_a_function : line_of 9 (calls (codes "f") ∷ newline ∷ b ∷ []) (a ∷ []) ≡ Cut (Enter 0 ∷ Text (codes "a") ∷ Leave (Some 0) ∷ Newline ∷ [])
unfolding search run step start fresh_at read_path target landed content_place next_place passed_places entered_places cut
behind_a_function = refl

-- ---- what hides one

by_glue_behind : line 9 (a ∷ newline ∷ glue ∷ b ∷ []) ≡ Whole (Text (codes "a") ∷ Newline ∷ Glue ∷ Text (codes "b") ∷ [])
unfolding search run step start fresh_at content_place next_place passed_places entered_places cut
by_glue_behind = refl

by_glue_before : line 9 (a ∷ glue ∷ newline ∷ b ∷ []) ≡ Whole (Text (codes "a") ∷ Glue ∷ Newline ∷ Text (codes "b") ∷ [])
unfolding search run step start fresh_at content_place next_place passed_places entered_places cut
by_glue_before = refl

-- a tag between them changes nothing
by_glue_before_a_tag : line 9 (a ∷ glue ∷ tagged (b ∷ []) ++ newline ∷ b ∷ [])
    ≡ Whole (Text (codes "a") ∷ Glue ∷ Tag (codes "b") ∷ Newline ∷ Text (codes "b") ∷ [])
unfolding search run step start fresh_at content_place next_place passed_places entered_places cut clean
by_glue_before_a_tag = refl

-- but one behind the newline does, before glue comes
not_by_glue_behind_a_tag : line 9 (a ∷ newline ∷ tagged (b ∷ []) ++ glue ∷ b ∷ []) ≡ Cut a_line
unfolding search run step start fresh_at content_place next_place passed_places entered_places cut clean
not_by_glue_behind_a_tag = refl

-- glue in a tag is the tag's
not_by_glue_in_a_tag : line 9 (a ∷ newline ∷ tagged (glue ∷ b ∷ [])) ≡ Cut a_line
unfolding search run step start fresh_at content_place next_place passed_places entered_places cut clean
not_by_glue_in_a_tag = refl

by_the_end_of_a_function : line_of 9 (calls (codes "f") ∷ b ∷ []) (a ∷ newline ∷ does control.Nop ∷ [])
    ≡ Whole (Enter 0 ∷ Text (codes "a") ∷ Newline ∷ Leave (Some 0) ∷ Text (codes "b") ∷ [])
unfolding search run step start fresh_at read_path target landed content_place next_place passed_places entered_places cut
by_the_end_of_a_function = refl

-- unless something is made of it before
by_a_tag_before_that_end : line_of 9 (calls (codes "f") ∷ b ∷ []) (a ∷ newline ∷ tagged (b ∷ []) ++ does control.Nop ∷ []) ≡ Cut (Enter 0 ∷ Text (codes "a") ∷ Newline ∷ [])
unfolding search run step start fresh_at read_path target landed content_place next_place passed_places entered_places cut clean
by_a_tag_before_that_end = refl

-- in a function that has written no text yet none is written
not_yet_written : line_of 9 (calls (codes "f") ∷ newline ∷ b ∷ []) (newline ∷ a ∷ [])
    ≡ Cut (Enter 0 ∷ Text (codes "a") ∷ Leave (Some 0) ∷ Newline ∷ [])
unfolding search run step start fresh_at read_path target landed content_place next_place passed_places entered_places cut
not_yet_written = refl

at_the_beginning : line 9 (newline ∷ a ∷ []) ≡ Whole (Newline ∷ Text (codes "a") ∷ [])
unfolding search run step start fresh_at content_place next_place passed_places entered_places cut
at_the_beginning = refl

-- the second one is hidden, and the first one is the line's
by_the_one_before : line 9 (a ∷ newline ∷ newline ∷ b ∷ []) ≡ Cut a_line
unfolding search run step start fresh_at content_place next_place passed_places entered_places cut
by_the_one_before = refl

-- where glue hides both, the line goes on, up to a newline that stands
up_to_a_later_one : line 9 (a ∷ newline ∷ newline ∷ glue ∷ b ∷ newline ∷ a ∷ [])
    ≡ Cut (Text (codes "a") ∷ Newline ∷ Newline ∷ Glue ∷ Text (codes "b") ∷ Newline ∷ [])
unfolding search run step start fresh_at content_place next_place passed_places entered_places cut
up_to_a_later_one = refl

-- a newline that a text brings along with more text is none to stop at
with_a_text_of_its_own : line 9 (a ∷ says (codes "\nb") ∷ newline ∷ a ∷ []) ≡ Cut (Text (codes "a") ∷ Newline ∷ Text (codes "b") ∷ Newline ∷ [])
unfolding search run step start fresh_at content_place next_place passed_places entered_places cut
with_a_text_of_its_own = refl

at_the_end_of_a_text : line 9 (says (codes "a\n") ∷ b ∷ []) ≡ Cut a_line
unfolding search run step start fresh_at content_place next_place passed_places entered_places cut
at_the_end_of_a_text = refl

-- ---- strings and tags

newline_in_a_string : line 9 (a ∷ dropped (b ∷ newline ∷ [])) ≡ Whole (Text (codes "a") ∷ [])
unfolding search run step start fresh_at content_place next_place passed_places entered_places cut
newline_in_a_string = refl

-- a text there is none of the line: the newline stays open, and glue hides it
text_in_a_string : line 12 (a ∷ newline ∷ dropped (b ∷ []) ++ glue ∷ b ∷ []) ≡ Whole (Text (codes "a") ∷ Newline ∷ Glue ∷ Text (codes "b") ∷ [])
unfolding search run step start fresh_at content_place next_place passed_places entered_places cut
text_in_a_string = refl

-- or the next text makes it firm
text_behind_a_string : line 12 (a ∷ newline ∷ dropped (b ∷ []) ++ b ∷ []) ≡ Cut a_line
unfolding search run step start fresh_at content_place next_place passed_places entered_places cut
text_behind_a_string = refl

newline_in_a_tag : line 9 (a ∷ tagged (b ∷ newline ∷ []) ++ b ∷ []) ≡ Whole (Text (codes "a") ∷ Tag (codes "b\n") ∷ Text (codes "b") ∷ [])
unfolding search run step start fresh_at content_place next_place passed_places entered_places cut clean
newline_in_a_tag = refl

-- ---- stops and faults

-- flow stops with the newline shown: that is the stop, and all is kept
a_stop_behind : line 9 (a ∷ newline ∷ []) ≡ Whole a_line
unfolding search run step start fresh_at content_place next_place passed_places entered_places cut
a_stop_behind = refl

a_stop_with_the_newline : ended (line_with [] 9 (list (a ∷ newline ∷ []))) ≡ Whole a_line
unfolding search run step start fresh_at content_place next_place passed_places entered_places cut
a_stop_with_the_newline = refl

a_fault_before : line 9 (a ∷ end_eval ∷ newline ∷ []) ≡ Broken fault.BadMode
unfolding search run step start fresh_at content_place next_place passed_places entered_places cut
a_fault_before = refl

-- glue hides the newline before the fault comes
a_fault_behind_glue : line 9 (a ∷ newline ∷ glue ∷ end_eval ∷ []) ≡ Broken fault.BadMode
unfolding search run step start fresh_at content_place next_place passed_places entered_places cut
a_fault_behind_glue = refl

too_many_steps : line 1 (a ∷ newline ∷ b ∷ []) ≡ Broken fault.OutOfSteps
unfolding search run step start fresh_at content_place next_place passed_places entered_places cut
too_many_steps = refl

-- ---- calls

abbrev seven : Option Given
seven = Some (given.Int (pos 7))

abbrev rolled : Made
rolled = record { name = codes "roll"; arguments = []; gave = seven }

no_answer : line 9 (a ∷ roll ∷ newline ∷ []) ≡ Waiting
unfolding search run step start fresh_at content_place next_place passed_places entered_places cut
no_answer = refl

-- before a newline it is made, and behind one it is not
abbrev calling : StoryTree
calling = story (evaluated (roll ∷ does control.Out ∷ []) ++ newline ∷ roll ∷ []) [] []

abbrev left_and_made : Moment → List (Option Given) × List Made
left_and_made (At c left made) = (left, made)
left_and_made (Stopped c left made) = (left, made)
left_and_made (Faulted f c left made) = (left, made)
left_and_made (Waits name made) = ([], made)

a_call_before : ended (line_with (seven ∷ []) 9 calling) ≡ Cut (Text (codes "7") ∷ Newline ∷ [])
unfolding search run step start fresh_at content_place next_place passed_places entered_places cut printed digits
a_call_before = refl

just_its_answers : left_and_made (line_with (seven ∷ seven ∷ []) 9 calling) ≡ (seven ∷ [], rolled ∷ [])
unfolding search run step start fresh_at content_place next_place passed_places entered_places cut printed digits
just_its_answers = refl

-- ---- one line after another

abbrev kept : Moment → Configuration → Configuration
kept (At c left made) d = c
kept (Stopped c left made) d = c
kept m d = d

-- where the second line of a story begins, and what it is
abbrev second : ℕ → StoryTree → Configuration
second n s = settled (kept (line_with [] n s) (start s []))

abbrev next_line : ℕ → List StoryTree → Ended
next_line n main = ended (searched (story main [] []) (second n (story main [] [])) [] n)

the_next_line : next_line 9 (a ∷ newline ∷ b ∷ newline ∷ []) ≡ Whole (Text (codes "b") ∷ Newline ∷ [])
unfolding search run step start fresh_at settled content_place next_place passed_places entered_places cut
the_next_line = refl

-- the fault behind a newline is the next line's
the_fault_comes_next : next_line 9 (a ∷ newline ∷ end_eval ∷ b ∷ []) ≡ Broken fault.BadMode
unfolding search run step start fresh_at settled content_place next_place passed_places entered_places cut
the_fault_comes_next = refl

-- and so is the call
the_call_comes_next : next_line 9 (a ∷ newline ∷ roll ∷ []) ≡ Waiting
unfolding search run step start fresh_at settled content_place next_place passed_places entered_places cut
the_call_comes_next = refl

-- glue at a line's beginning finds no newline to hide, and hides the next
glue_comes_next : next_line 9 (a ∷ newline ∷ tagged (b ∷ []) ++ glue ∷ newline ∷ b ∷ [])
    ≡ Whole (Tag (codes "b") ∷ Glue ∷ Newline ∷ Text (codes "b") ∷ [])
unfolding search run step start fresh_at settled content_place next_place passed_places entered_places cut clean
glue_comes_next = refl
