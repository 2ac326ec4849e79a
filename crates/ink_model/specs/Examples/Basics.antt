-- Small worked examples of the rules, each proved by computation.
use Rattle.std.specs.Prelude.{◌≡◌, ℤ, pos, negsuc, ℕ, zero, suc, ◌+◌, List, [], ◌∷◌, ◌++◌, refl, codes, length, nat_lt, true, false, Option, Some, None, Ok, Err}
use Rattle.std.proofs.Common.{inl, inr, ap, arith, zero-add, suc-add}
use Rattle.std.proofs.lemmas.Str.{is_utf8-from_IsUtf8}
use Rattle.std.specs.Char.{encode_utf8}
use Rattle.serde_json.specs.Data.{unsigned, Data, null, number, string, array, object, no_items, item, no_members, member}
use Rattle.serde_json.proofs.OnLiterals.{serde_json_on_literals}
use Rattle.ink_model.specs.Host.Bindings.{no_objects}
use Rattle.ink_model.specs.Memory.Refusals.{GetsTo, asks}
use Rattle.ink_model.specs.Protocol.Answer.{answer, Tells, Acts, Shows, Refuses, Breaks}
use Rattle.ink_model.specs.Protocol.Command as command
use Rattle.ink_model.specs.Protocol.Command.{Through, lines_of, command_of}
use Rattle.ink_model.specs.Protocol.Passage.{passage, passage_asks}
use Rattle.ink_model.specs.Protocol.Session.{Continue, Session, Serves, Set, Get, Restart}
use Rattle.ink_model.specs.Protocol.State.{State, Ready, Broken}
use Rattle.ink_model.specs.Run.Configuration.{Configuration, with_globals, start, fresh_at, ended, with_safe, put_at, moved, settled, begun, can_go_on}
use Rattle.ink_model.specs.Run.Effect.{Fields}
use Rattle.ink_model.specs.Run.Effect.{with_mode, with_page, with_stack}
use Rattle.ink_model.specs.Run.Entered.{entered_places, passed_places}
use Rattle.ink_model.specs.Run.Flows.{one_flow}
use Rattle.ink_model.specs.Run.Moments.{Kept, Made, Moment, moment, next, run, through, cut_off, answered, At, Stopped}
use Rattle.ink_model.specs.Run.Opening.{opened, opened_by, opening}
use Rattle.ink_model.specs.Run.Place.{content_place, next_place, landed, knot}
use Rattle.ink_model.specs.Run.Step.{Bound, Faults, step, nothing_bound, Next, Stop, Comes}
use Rattle.ink_model.specs.Story.Grammar as grammar
use Rattle.ink_model.specs.Story.Grammar.{here, of_json, of_value}
use Rattle.ink_model.specs.Story.Leaves.{object_leaf, jump_readings, store_readings, string_leaf, value_readings}
use Rattle.ink_model.specs.Story.Tree.{StoryTree, leaf, container, Trees, no_trees, tree, no_keys, key, at}
use Rattle.ink_model.specs.Story.Word.{word, operator_word}
use Rattle.ink_model.specs.Text.Bytes.{fits_text}
use Rattle.ink_model.specs.Text.Clean.{clean}
use Rattle.ink_model.specs.Text.Mark.{cut}
use Rattle.ink_model.specs.Text.Shown.{shows_more}
use Rattle.ink_model.specs.Values.Operator.{apply}
use Rattle.ink_model.specs.Values.Value.{printed}
use Rattle.ink_model.specs.Variables.Store.{store}
use Rattle.ink_model.specs.declared.content.Control.{Control}
use Rattle.ink_model.specs.declared.content.Control.TheVariants as control
use Rattle.ink_model.specs.declared.content.Control.TheVariants.{Done, End}
use Rattle.ink_model.specs.declared.content.Leaf.TheVariants as leaves
use Rattle.ink_model.specs.declared.fault.Cause.TheVariants.{NotJson, Version, Shape, Unsupported, Limit}
use Rattle.ink_model.specs.declared.fault.Fault.TheVariants as fault
use Rattle.ink_model.specs.declared.fault.Refusal.TheVariants as refusal
use Rattle.ink_model.specs.declared.host.Given.{Given}
use Rattle.ink_model.specs.declared.host.Given.TheVariants as given
use Rattle.ink_model.specs.declared.limits.TheConstants.{MAX_STACK}
use Rattle.ink_model.specs.declared.mark.Mark.TheVariants.{Text, Blank, Newline}
use Rattle.ink_model.specs.declared.operator.Op.TheVariants as op
use Rattle.ink_model.specs.declared.place.Part.TheVariants.{Index, Name}
use Rattle.ink_model.specs.declared.value.Value.{Value}
use Rattle.ink_model.specs.declared.value.Value.TheVariants as value
use Rattle.ink_model.specs.declared.version.InkVersion.TheVariants.{V21}

-- ---- a story: ["^Hi","\n",["done",{"#n":"g"}],null], and a container by key that flow never comes to

abbrev text : List ℕ → StoryTree
text t = leaf (leaves.Text t)

abbrev newline : StoryTree
newline = leaf leaves.Newline

abbrev list : Trees → StoryTree
list content = container None 0 content no_keys

abbrev small : StoryTree
small = container None 0 (tree (text (codes "Hi")) (tree newline (tree (container (Some (codes "g")) 0 (tree (leaf (leaves.Control Done)) no_trees) no_keys) no_trees)))
    (key (codes "k") (list (tree (text (codes "x")) no_trees)) no_keys)

-- ---- places

found_by_index : at small (Index 2 ∷ Index 0 ∷ []) ≡ Some (leaf (leaves.Control Done))
found_by_index = refl

found_by_name : at small (Name (codes "k") ∷ Index 0 ∷ []) ≡ Some (text (codes "x"))
found_by_name = refl

-- flow goes down to the first content before it performs
goes_in : content_place small (Index 2 ∷ []) ≡ Index 2 ∷ Index 0 ∷ []
unfolding content_place
goes_in = refl

-- off the end of a list, flow goes on after it; off the end of a container by key, nowhere
goes_up : next_place (list (tree (list (tree newline no_trees)) (tree newline no_trees))) (Index 0 ∷ Index 0 ∷ []) ≡ Some (Index 1 ∷ [])
unfolding next_place
goes_up = refl

stays_in_name : next_place small (Name (codes "k") ∷ Index 0 ∷ []) ≡ None
unfolding next_place
stays_in_name = refl

-- ---- steps

-- a text is written, and flow moves on
a_step : step small nothing_bound (start small [])
    ≡ Comes (Next (with_page (record { line = Text (codes "Hi") ∷ []; sections = []; next_enter = 0 }) (moved (Index 0 ∷ []) (Some (Index 1 ∷ [])) (start small []))))
unfolding step start fresh_at content_place next_place cut passed_places entered_places
a_step = refl

-- `done` stops flow safely, and the previous place stays
a_done : step (list (tree (leaf (leaves.Control Done)) no_trees)) nothing_bound (start small []) ≡ Comes (Stop (with_safe true (put_at None (start small []))))
unfolding step start fresh_at content_place passed_places entered_places
a_done = refl

an_end : step (list (tree (leaf (leaves.Control End)) no_trees)) nothing_bound (start small []) ≡ Comes (Stop (ended (start small [])))
unfolding step start fresh_at content_place passed_places entered_places
an_end = refl

-- off the story's end flow stops, and has moved
off_the_end : step (list (tree (list no_trees) no_trees)) nothing_bound (start small []) ≡ Comes (Stop (moved (Index 0 ∷ []) None (start small [])))
unfolding step start fresh_at content_place next_place passed_places entered_places
off_the_end = refl

-- ---- a run and its passage

a_run : moment small nothing_bound (start small []) [] 3
    ≡ Stopped (with_safe true (put_at None (with_page (record { line = Text (codes "Hi") ∷ Newline ∷ []; sections = []; next_enter = 0 })
    (moved (Index 1 ∷ []) (Some (Index 2 ∷ [])) (start small []))))) [] []
unfolding run step start fresh_at content_place next_place cut passed_places entered_places
a_run = refl

a_passage : (passage (with_safe true (put_at None (with_page (record { line = Text (codes "Hi") ∷ Newline ∷ []; sections = []; next_enter = 0 }) (start small [])))))
    ≡ record { text = codes "Hi\n"; tags = []; choices = []; events = []; more = false; loose = false }
unfolding passage start fresh_at clean
a_passage = refl

-- a stop off the end is a loose one
a_loose_passage : (passage (put_at None (start small []))) ≡ record { text = []; tags = []; choices = []; events = []; more = false; loose = true }
unfolding passage start fresh_at clean
a_loose_passage = refl

-- ---- text

cut_at_both_ends : cut (codes "\n\nA\n \n") ≡ Newline ∷ Text (codes "A") ∷ Newline ∷ []
unfolding cut
cut_at_both_ends = refl

cut_blanks : cut (codes " \n \n ") ≡ Blank (codes " ") ∷ Newline ∷ Blank (codes " ") ∷ []
unfolding cut
cut_blanks = refl

-- a newline inside a text stands where it is
not_cut_inside : cut (codes "a\nb ") ≡ Text (codes "a\nb ") ∷ []
unfolding cut
not_cut_inside = refl

cleaned : clean (codes "  a \t b \n\t\n c") ≡ codes "a b\n\nc"
unfolding clean
cleaned = refl

-- ---- what is refused when a story is read

abbrev file : Data → Data → Data
file version root = object (member (codes "inkVersion") version (member (codes "root") root no_members))

abbrev version_21 : Data
version_21 = number (unsigned 21)

abbrev done_word : Data
done_word = string (codes "done")

read_small : of_value (file version_21 (array (item done_word (item null no_items)))) ≡ Ok (list (tree (leaf (leaves.Control Done)) no_trees))
unfolding string_leaf word
read_small = refl

no_json : of_json None ≡ Err (here NotJson)
no_json = refl

no_object : of_value (array no_items) ≡ Err (here Shape)
no_object = refl

-- the version is looked at before the root
earlier_version : of_value (file (number (unsigned 19)) null) ≡ Err (here Version)
earlier_version = refl

later_version : of_value (file (number (unsigned 22)) null) ≡ Err (here Version)
later_version = refl

-- a tag given whole is read in version 20 alone
abbrev tag_object : Data
tag_object = object (member (codes "#") (string (codes " calm ")) no_members)

tag_read : of_value (file (number (unsigned 20)) (array (item tag_object (item null no_items)))) ≡ Ok (list (tree (leaf (leaves.Tag (codes " calm "))) no_trees))
unfolding object_leaf jump_readings value_readings store_readings
tag_read = refl

tag_beyond : of_value (file version_21 (array (item tag_object (item null no_items)))) ≡ Err (record { cause = Unsupported; place = Index 0 ∷ [] })
unfolding object_leaf
tag_beyond = refl

with_lists : of_value (object (member (codes "inkVersion") version_21 (member (codes "listDefs") (object (member (codes "l") null no_members)) (member (codes "root") null no_members)))) ≡ Err (here Unsupported)
with_lists = refl

root_is_no_list : of_value (file version_21 null) ≡ Err (here Shape)
root_is_no_list = refl

-- elements by index come before the containers by key, and content of which nothing is known yet is refused where it stands
unsupported : of_value (file version_21 (array (item (array (item done_word (item (string (codes "POW")) (item null no_items)))) (item (object (member (codes "k") null no_members)) no_items))))
    ≡ Err (record { cause = Unsupported; place = Index 0 ∷ Index 1 ∷ [] })
unfolding string_leaf word operator_word
unsupported = refl

no_container_at_key : of_value (file version_21 (array (item (object (member (codes "k") null no_members)) no_items))) ≡ Err (record { cause = Shape; place = Name (codes "k") ∷ [] })
no_container_at_key = refl

abbrev named_list : Data
named_list = array (item (object (member (codes "#n") (string (codes "a")) no_members)) no_items)

repeated_name : of_value (file version_21 (array (item named_list (item named_list (item null no_items))))) ≡ Err (record { cause = Shape; place = Index 1 ∷ [] })
repeated_name = refl

-- the limit of nesting comes before all else at its place
too_deep : grammar.content V21 121 false false (array no_items) ≡ Err (here Limit)
too_deep = refl

-- ---- command lines and sessions

some_lines : lines_of (codes "through\n\nbye") ≡ codes "through" ∷ [] ∷ codes "bye" ∷ []
some_lines = refl

no_last_line : lines_of (codes "a\n") ≡ codes "a" ∷ []
no_last_line = refl

abbrev cannot : List ℕ
cannot = codes "{\"refused\":\"CannotContinue\"}\n"

abbrev bad_command : List ℕ
bad_command = codes "{\"refused\":\"BadCommand\"}\n"

a_refusal : answer (Refuses refusal.CannotContinue) ≡ cannot
unfolding answer serde_json_on_literals
a_refusal = refl

a_bad_command : answer (Refuses refusal.BadCommand) ≡ bad_command
unfolding answer serde_json_on_literals
a_bad_command = refl

a_broken_answer : answer (Refuses (refusal.Broken fault.TooDeep)) ≡ codes "{\"fault\":\"TooDeep\",\"refused\":\"Broken\"}\n"
unfolding answer serde_json_on_literals
a_broken_answer = refl

a_fault_answer : answer (Breaks fault.OutOfSteps []) ≡ codes "{\"events\":[],\"fault\":\"OutOfSteps\"}\n"
unfolding answer serde_json_on_literals
a_fault_answer = refl

pub through_line : command_of (codes "through") ≡ Some Through
unfolding command_of encode_utf8
through_line = rw (is_utf8-from_IsUtf8 (codes "through") (codes "through", (refl, refl))) refl

pub continue_line : command_of (codes "continue") ≡ Some command.Continue
unfolding command_of encode_utf8
continue_line = rw (is_utf8-from_IsUtf8 (codes "continue") (codes "continue", (refl, refl))) refl

other_line : command_of (codes "bye") ≡ None
unfolding command_of encode_utf8
other_line = rw (is_utf8-from_IsUtf8 (codes "bye") (codes "bye", (refl, refl))) refl

abbrev stopped : State
stopped = record { condition = Ready (put_at None (start small [])); aside = one_flow; stamp = 0 }

abbrev broken : State
broken = record { condition = Broken fault.TooDeep []; aside = one_flow; stamp = 0 }

-- where flow has stopped, running is refused, and so is a line that is no command; nothing changes
a_stopped_session : (c : Configuration) → can_go_on c ≡ false → let after : State = record { condition = Ready c; aside = one_flow; stamp = 0 } in
    Session small no_objects [] (codes "through" ∷ codes "bye" ∷ []) after (cannot ++ bad_command) after
unfolding Serves
a_stopped_session c stays_there = let after : State = record { condition = Ready c; aside = one_flow; stamp = 0 } in (
  Refuses refusal.CannotContinue,
  after,
  bad_command,
  [],
  [],
  refl,
  rw through_line (inl (rw stays_there (refl, (refl, refl)))),
  rw a_refusal refl,
  (Refuses refusal.BadCommand, after, [], [], [], refl, rw other_line (inl (refl, (refl, refl))), rw a_bad_command refl, (refl, refl, refl)),
)

a_session : Session small no_objects [] (codes "through" ∷ codes "bye" ∷ []) stopped (cannot ++ bad_command) stopped
unfolding start fresh_at
a_session = a_stopped_session (put_at None (start small [])) refl

-- after a fault a command that runs is answered by the fault
a_broken_session : Session small no_objects [] (codes "through" ∷ []) broken (codes "{\"fault\":\"TooDeep\",\"refused\":\"Broken\"}\n") broken
unfolding Serves
a_broken_session = (Refuses (refusal.Broken fault.TooDeep), broken, [], [], [], refl, rw through_line (inl (refl, (refl, refl))), rw a_broken_answer refl, (refl, refl, refl))

-- `continue` is refused as `through` is
a_stopped_continue : Continue small no_objects [] stopped (Refuses refusal.CannotContinue) stopped
unfolding start fresh_at
a_stopped_continue = (refl, (refl, refl))

a_broken_continue : Continue small no_objects [] broken (Refuses (refusal.Broken fault.TooDeep)) broken
a_broken_continue = (refl, (refl, refl))

-- a run that has stopped stays as it is
pub stays : (s : StoryTree) (b : Bound) (c d : Configuration) (k j : ℕ) (left answers : List (Option Given)) (made : List Made)
    → moment s b c answers k ≡ Stopped d left made → run s b (j + k) (At c answers []) ≡ Stopped d left made
unfolding run
stays s b c d k zero left answers made e = rw (zero-add k) e
stays s b c d k (suc j) left answers made e = rw (suc-add j k) (ap (next s b) (stays s b c d k j left answers made e))

abbrev small_end : Configuration
small_end = with_safe true (put_at None (with_page (record { line = Text (codes "Hi") ∷ Newline ∷ []; sections = []; next_enter = 0 })
    (moved (Index 1 ∷ []) (Some (Index 2 ∷ [])) (start small []))))

small_through : through small nothing_bound (start small []) [] ≡ Stopped small_end [] []
unfolding start fresh_at
small_through = ap cut_off (stays small nothing_bound (begun (start small [])) small_end 3 999997 [] [] [] a_run)

abbrev small_passage : List ℕ
small_passage = codes "{\"choices\":[],\"events\":[],\"loose\":false,\"more\":false,\"tags\":[],\"text\":\"Hi\\n\"}\n"

a_told_answer : answer (Tells (passage small_end)) ≡ small_passage
unfolding answer serde_json_on_literals passage start fresh_at clean
a_told_answer = refl

-- what is shown is made in memory; a line's end alone shows nothing
its_text_asks : passage_asks small_end ≡ true
unfolding start fresh_at
its_text_asks = refl

a_newline_does_not : shows_more (Newline ∷ []) ≡ false
a_newline_does_not = refl

-- nor do blanks, unless a line's end is shown behind them
blanks_do_not : shows_more (Newline ∷ Blank (codes " ") ∷ []) ≡ false
blanks_do_not = refl

a_newline_behind_them_does : shows_more (Blank (codes " ") ∷ Newline ∷ []) ≡ true
a_newline_behind_them_does = refl

abbrev after_small : State
after_small = record { condition = Ready (settled small_end); aside = one_flow; stamp = 0 }

-- a story is played to its end; then running is refused, and so is a line that is no command
a_whole_session : Session small no_objects [] (codes "through" ∷ codes "through" ∷ codes "bye" ∷ []) (opened (start small [])) (small_passage ++ (cannot ++ bad_command)) after_small
unfolding Serves start fresh_at settled passage
a_whole_session = (
  Tells (passage small_end),
  after_small,
  cannot ++ bad_command,
  [],
  [],
  refl,
  rw through_line (inl ([], inl (Kept small_end, rw small_through refl, inl (record { all = true; saw = []; telling = record { answers = []; one_each = refl; events = refl; all_told = refl }; events = refl; replies = refl; leaves = refl })))),
  rw a_told_answer refl,
  a_stopped_session (settled small_end) refl,
)

abbrev no_memory : State
no_memory = record { condition = Broken fault.OutOfMemory []; aside = one_flow; stamp = 0 }

abbrev first_step : GetsTo small nothing_bound (begun (start small [])) [] (begun (start small []))
unfolding start fresh_at run asks content_place passed_places
first_step = record { steps = 0; within = omega arith; got_there = refl; asking = refl }

-- where memory is refused at some step, the fault is OutOfMemory, and the player is broken by it
a_short_session : Session small no_objects [] (codes "through" ∷ codes "bye" ∷ []) (opened (start small []))
    (codes "{\"events\":[],\"fault\":\"OutOfMemory\"}\n" ++ bad_command) no_memory
unfolding Serves start fresh_at answer serde_json_on_literals
a_short_session = (
  Breaks fault.OutOfMemory [],
  no_memory,
  bad_command,
  [],
  [],
  refl,
  rw through_line (inl ([], inr ([], record { reached = begun (start small []); got_there = inl first_step; leaves = refl }, (refl, refl, refl)))),
  refl,
  (Refuses refusal.BadCommand, no_memory, [], [], [], refl, rw other_line (inl (refl, (refl, refl))), refl, (refl, refl, refl)),
)

-- ---- evaluation, globals and opening

abbrev number_content : ℤ → StoryTree
number_content z = leaf (leaves.Int z)

abbrev control_content : Control → StoryTree
control_content o = leaf (leaves.Control o)

-- a story of one list, from which the steps below begin
abbrev story_of : Trees → StoryTree
story_of content = list content

abbrev evaluating : Configuration → Configuration
evaluating c = with_mode true c

abbrev at_first : List Value → Configuration
at_first vs = with_stack vs (fresh_at (Index 0 ∷ []))

-- in evaluation mode a text is pushed and not written
a_text_pushed : step (story_of (tree (text (codes "x")) (tree newline no_trees))) nothing_bound (evaluating (at_first []))
    ≡ Comes (Next (with_stack (value.Text (codes "x") ∷ []) (moved (Index 0 ∷ []) (Some (Index 1 ∷ [])) (evaluating (at_first [])))))
unfolding step fresh_at content_place next_place cut passed_places entered_places
a_text_pushed = refl

-- outside it an integer does nothing
a_number_passed : step (story_of (tree (number_content (pos 5)) (tree newline no_trees))) nothing_bound (at_first [])
    ≡ Comes (Next (moved (Index 0 ∷ []) (Some (Index 1 ∷ [])) (at_first [])))
unfolding step fresh_at content_place next_place passed_places entered_places
a_number_passed = refl

-- `ev` in evaluation mode, and `/ev` outside it
begun_twice : step (story_of (tree (control_content control.BeginEval) no_trees)) nothing_bound (evaluating (at_first [])) ≡ Comes (Faults fault.BadMode)
unfolding step fresh_at content_place passed_places entered_places
begun_twice = refl

ended_twice : step (story_of (tree (control_content control.EndEval) no_trees)) nothing_bound (at_first []) ≡ Comes (Faults fault.BadMode)
unfolding step fresh_at content_place passed_places entered_places
ended_twice = refl

-- `out` writes what it pops, and on an empty stack does nothing; `pop` faults there
an_out : step (story_of (tree (control_content control.Out) (tree newline no_trees))) nothing_bound (at_first (value.Bool true ∷ []))
    ≡ Comes (Next (with_page (record { line = Text (codes "true") ∷ []; sections = []; next_enter = 0 }) (moved (Index 0 ∷ []) (Some (Index 1 ∷ [])) (at_first []))))
unfolding step fresh_at content_place printed next_place cut passed_places entered_places
an_out = refl

an_empty_out : step (story_of (tree (control_content control.Out) (tree newline no_trees))) nothing_bound (at_first [])
    ≡ Comes (Next (moved (Index 0 ∷ []) (Some (Index 1 ∷ [])) (at_first [])))
unfolding step fresh_at content_place next_place passed_places entered_places
an_empty_out = refl

an_empty_pop : step (story_of (tree (control_content control.Pop) no_trees)) nothing_bound (at_first []) ≡ Comes (Faults fault.StackEmpty)
unfolding step fresh_at content_place passed_places entered_places
an_empty_pop = refl

-- a lone operand is popped, and its kind is never looked at
lacking_an_operand : step (story_of (tree (leaf (leaves.Op op.Add)) no_trees)) nothing_bound (at_first (value.Void ∷ [])) ≡ Comes (Faults fault.StackEmpty)
unfolding step fresh_at content_place passed_places entered_places
lacking_an_operand = refl

a_quotient : step (story_of (tree (leaf (leaves.Op op.Divide)) (tree newline no_trees))) nothing_bound (at_first (value.Int (negsuc 6) ∷ value.Int (pos 2) ∷ []))
    ≡ Comes (Next (with_stack (value.Int (negsuc 2) ∷ []) (moved (Index 0 ∷ []) (Some (Index 1 ∷ [])) (at_first []))))
unfolding step fresh_at content_place apply next_place passed_places entered_places
a_quotient = refl

-- a global is declared; one that is there keeps its place when it is declared again
declared_again : store (codes "x") (value.Int (pos 2)) ((codes "x", value.Int (pos 1)) ∷ (codes "y", value.Void) ∷ []) ≡ (codes "x", value.Int (pos 2)) ∷ (codes "y", value.Void) ∷ []
declared_again = refl

declared_last : store (codes "z") value.Void ((codes "x", value.Void) ∷ []) ≡ (codes "x", value.Void) ∷ (codes "z", value.Void) ∷ []
declared_last = refl

-- assigning to a global that is absent faults, and reading one gives 0
assigned_absent : step (story_of (tree (leaf (leaves.Assign (codes "x"))) no_trees)) nothing_bound (at_first (value.Void ∷ [])) ≡ Comes (Faults fault.NoTemp)
unfolding step fresh_at content_place passed_places entered_places
assigned_absent = refl

read_absent : step (story_of (tree (leaf (leaves.Variable (codes "x"))) (tree newline no_trees))) nothing_bound (at_first [])
    ≡ Comes (Next (with_stack (value.Int (pos 0) ∷ []) (moved (Index 0 ∷ []) (Some (Index 1 ∷ [])) (at_first []))))
unfolding step fresh_at content_place next_place passed_places entered_places
read_absent = refl

-- ["ev",1,{"VAR=":"x"},"end",null] as the knot `global decl`
abbrev pub declaring : StoryTree
declaring = container None 0 (tree (leaf (leaves.Control Done)) no_trees)
    (key (codes "global decl") (list (tree (control_content control.BeginEval) (tree (number_content (pos 1)) (tree (leaf (leaves.Declare (codes "x"))) (tree (leaf (leaves.Control End)) no_trees))))) no_keys)

a_knot : knot (codes "global decl") declaring ≡ Some (Name (codes "global decl") ∷ [])
unfolding knot
a_knot = refl

no_knot : knot (codes "h") small ≡ None
unfolding knot
no_knot = refl

-- the containers of the root's list are knots too, by their names
a_listed_knot : knot (codes "g") small ≡ Some (Index 2 ∷ [])
unfolding knot
a_listed_knot = refl

abbrev declared_end : Configuration
declared_end = ended (with_globals ((codes "x", value.Int (pos 1)) ∷ []) (fresh_at (Name (codes "global decl") ∷ Index 0 ∷ [])))

declarations_run : moment declaring nothing_bound (fresh_at (Name (codes "global decl") ∷ Index 0 ∷ [])) [] 4 ≡ Stopped declared_end [] []
unfolding run step fresh_at content_place next_place passed_places entered_places
declarations_run = refl

-- a story is opened with the globals that it declares
pub an_opening : opening declaring ≡ Ok (start declaring ((codes "x", value.Int (pos 1)) ∷ []))
unfolding opening knot landed fresh_at
an_opening = ap (λ m. opened_by declaring (cut_off m))
    (stays declaring nothing_bound (fresh_at (Name (codes "global decl") ∷ Index 0 ∷ [])) declared_end 4 999996 [] [] [] declarations_run)

abbrev with_x : State
with_x = opened (start declaring ((codes "x", value.Int (pos 1)) ∷ []))

-- a bad value comes before an absent variable
a_bad_value : Set no_objects [] (codes "y") None with_x (Refuses refusal.BadValue) with_x
a_bad_value = (refl, (refl, refl))

an_absent_variable : Set no_objects [] (codes "y") (Some (given.Int (pos 1))) with_x (Refuses refusal.NoSuchVariable) with_x
unfolding start fresh_at
an_absent_variable = (refl, (refl, refl))

-- an integer that is set has 32 bits
too_large_a_value : Set no_objects [] (codes "x") (Some (given.Int (pos 2147483648))) with_x (Refuses refusal.BadValue) with_x
unfolding start fresh_at
too_large_a_value = (refl, (refl, refl))

-- an answer of the host is pushed within the stack's limit; no text over its limit is, and no integer of more than 32 bits
a_full_stack : (s : StoryTree) (f : Fields) (c : Configuration) → nat_lt (length f.stack) MAX_STACK ≡ false
    → answered s f c (Some (given.Int (pos 1))) ≡ Faults fault.TooDeep
a_full_stack s f c full = rw full refl

a_long_answer : (s : StoryTree) (f : Fields) (c : Configuration) (t : List ℕ) → fits_text t ≡ false
    → answered s f c (Some (given.Text t)) ≡ Faults fault.TooDeep
a_long_answer s f c t long = rw long refl

a_large_answer : (s : StoryTree) (f : Fields) (c : Configuration) → answered s f c (Some (given.Int (pos 2147483648))) ≡ Faults fault.TooDeep
a_large_answer s f c = refl

-- a refusal is a fault
a_refusal_of_the_host : (s : StoryTree) (f : Fields) (c : Configuration) → answered s f c None ≡ Faults fault.HostRefused
a_refusal_of_the_host s f c = refl

-- declarations that fault leave the globals as they stood before the step that faulted
abbrev declaring_half : StoryTree
declaring_half = container None 0 no_trees (key (codes "global decl") (container None 0
    (tree (leaf (leaves.Control control.BeginEval)) (tree (leaf (leaves.Int (pos 1))) (tree (leaf (leaves.Declare (codes "x")))
    (tree (leaf (leaves.Declare (codes "y"))) no_trees)))) no_keys) no_keys)

abbrev half_start : Configuration
half_start = fresh_at (Name (codes "global decl") ∷ Index 0 ∷ [])

abbrev half_moment : Moment
half_moment = moment declaring_half nothing_bound half_start [] 4

half_fault : opened_by declaring_half half_moment
    ≡ Err (record { fault = fault.StackEmpty; globals = (codes "x", value.Int (pos 1)) ∷ [] })
unfolding run step fresh_at content_place next_place passed_places entered_places
half_fault = refl

-- a broken player still shows its globals, and begins anew
a_broken_get : Get (codes "x") (record { condition = Broken fault.Divide ((codes "x", value.Int (pos 3)) ∷ []); aside = one_flow; stamp = 0 }) (Shows (value.Int (pos 3)))
    (record { condition = Broken fault.Divide ((codes "x", value.Int (pos 3)) ∷ []); aside = one_flow; stamp = 0 })
a_broken_get = inl (refl, refl)

a_restart : Restart declaring no_objects [] (record { condition = Broken fault.Divide []; aside = one_flow; stamp = 0 }) (Acts []) with_x
unfolding start fresh_at
a_restart = inl (rw an_opening (inl (record {
  all = true;
  saw = [];
  telling = record { answers = []; one_each = refl; events = refl; all_told = refl };
  events = refl;
  replies = refl;
  leaves = refl;
})))
