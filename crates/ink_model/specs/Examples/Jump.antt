-- Jumps and turns, each proved by computation (docs/RUNNING.md, "Choosing and jumping").
use Rattle.std.specs.Prelude.{◌≡◌, ℕ, pos, List, [], ◌∷◌, ◌++◌, refl, codes, true, false, Option, Some, None}
use Rattle.ink_model.specs.Choices.Choosing.{jump_place}
use Rattle.ink_model.specs.Examples.CallStories.{after, all_places, calls, does, line_in, list, modes_in, now, safe_in, says, stack_in, threads_in, where_in}
use Rattle.ink_model.specs.Examples.ChoiceStories.{choices_in, chooses, goes_on, jumps, knots, offers, turn_in}
use Rattle.ink_model.specs.Examples.CountStories.{diverts, evaluates, flagged, in_knot, knot, target_of, temporaries_in, turns_in, visits_in}
use Rattle.ink_model.specs.Memory.Asks.{asks}
use Rattle.ink_model.specs.Run.Configuration.{Configuration, next_turn}
use Rattle.ink_model.specs.Run.Configuration.{fresh_at, settled, start}
use Rattle.ink_model.specs.Run.Entered.{entered_places, passed_places}
use Rattle.ink_model.specs.Run.Moments.{run}
use Rattle.ink_model.specs.Run.Place.{content_place, landed, next_place}
use Rattle.ink_model.specs.Run.Step.{step}
use Rattle.ink_model.specs.Story.Path.{read_path, target}
use Rattle.ink_model.specs.Story.Tree.{StoryTree, leaf, container, key, no_keys}
use Rattle.ink_model.specs.Story.View.{trees_of}
use Rattle.ink_model.specs.Text.Mark.{cut}
use Rattle.ink_model.specs.Values.Operator.{apply}
use Rattle.ink_model.specs.Values.Value.{is_true, printed}
use Rattle.ink_model.specs.declared.content.Control.TheVariants as control
use Rattle.ink_model.specs.declared.content.Destination.TheVariants as destination
use Rattle.ink_model.specs.declared.content.Leaf.TheVariants as leaves
use Rattle.ink_model.specs.declared.mark.Mark.TheVariants.{Newline, Text}
use Rattle.ink_model.specs.declared.operator.Op.TheVariants as op
use Rattle.ink_model.specs.declared.place.Part.TheVariants.{Index, Name}
use Rattle.ink_model.specs.declared.value.Value.TheVariants as value

-- ---- what is left

-- two threads in a function that evaluates, with a temporary
abbrev busy : StoryTree
busy = knots (does control.BeginEval ∷ leaf (leaves.Int (pos 5)) ∷ calls (codes "f") ∷ [])
    (offers (codes "k") 0 ∷ does control.BeginEval ∷ leaf (leaves.Int (pos 6)) ∷ leaf (leaves.DeclareTemp (codes "t")) ∷ does control.Thread ∷ says (codes "f") ∷ []) [] (says (codes "x") ∷ says (codes "y") ∷ [])

-- out of both, to the knot's first content, from nowhere
out_of_threads : all_places (threads_in (jumps (codes "k") busy (now (after 8 busy)))) ≡ Some (in_knot 0) ∷ []
unfolding run step start fresh_at settled content_place passed_places entered_places next_place read_path target landed cut printed is_true asks
out_of_threads = refl

one_frame_from_nowhere : where_in (threads_in (jumps (codes "k") busy (now (after 8 busy)))) ≡ None ∷ Some (in_knot 0) ∷ []
unfolding run step start fresh_at settled content_place passed_places entered_places next_place read_path target landed cut printed is_true asks
one_frame_from_nowhere = refl

outside_evaluation : modes_in (threads_in (jumps (codes "k") busy (now (after 8 busy)))) ≡ false ∷ []
unfolding run step start fresh_at settled content_place passed_places entered_places next_place read_path target landed cut printed is_true asks
outside_evaluation = refl

no_temporaries : temporaries_in (jumps (codes "k") busy (now (after 8 busy))) ≡ []
unfolding run step start fresh_at settled content_place passed_places entered_places next_place read_path target landed cut printed is_true asks
no_temporaries = refl

no_choices : choices_in (jumps (codes "k") busy (now (after 8 busy))) ≡ []
unfolding run step start fresh_at settled content_place passed_places entered_places next_place read_path target landed cut printed is_true asks
no_choices = refl

-- as after `end`, the stack stays, and the stop was a safe one
the_stack_stays : stack_in (jumps (codes "k") busy (now (after 8 busy))) ≡ value.Int (pos 5) ∷ []
unfolding run step start fresh_at settled content_place passed_places entered_places next_place read_path target landed cut printed is_true asks
the_stack_stays = refl

safe_as_after_end : safe_in (jumps (codes "k") busy (now (after 8 busy))) ≡ true
unfolding run step start fresh_at settled content_place passed_places entered_places next_place read_path target landed cut printed is_true asks
safe_as_after_end = refl

another_turn : turn_in (jumps (codes "k") busy (now (after 8 busy))) ≡ Some 1
unfolding run step start fresh_at settled content_place passed_places entered_places next_place read_path target landed cut printed is_true asks
another_turn = refl

entered_in_that_turn : turns_in (jumps (codes "k") busy (now (after 8 busy))) ≡ (knot, 1) ∷ []
unfolding run step start fresh_at settled content_place passed_places entered_places next_place read_path target landed cut printed is_true asks
entered_in_that_turn = refl

-- ---- what is entered

abbrev all_counted : StoryTree
all_counted = container None 1 (trees_of (diverts (codes "k") ∷ [])) (key (codes "k") (flagged 1 (says (codes "x") ∷ says (codes "y") ∷ [])) no_keys)

-- all around, from nowhere: the root too, and a knot that flow was in
all_around : visits_in (jumps (codes "k.1") all_counted (now (after 2 all_counted))) ≡ ([], 1) ∷ (knot, 2) ∷ []
unfolding run step start fresh_at settled content_place passed_places entered_places next_place read_path target landed cut printed is_true asks
all_around = refl

-- ---- where a path leads

abbrev paths : StoryTree
paths = container None 0 (trees_of (does control.Done ∷ [])) (key (codes "k") (container None 0 (trees_of (list (says (codes "x") ∷ []) ∷ [])) (key (codes "n") (list (says (codes "y") ∷ [])) no_keys)) no_keys)

-- by a name to the first content, by an index to the very place
by_a_name : jump_place paths (codes "k.n") ≡ Some (Name (codes "k") ∷ Name (codes "n") ∷ Index 0 ∷ [])
unfolding run step start fresh_at settled content_place passed_places entered_places next_place read_path target landed cut printed is_true asks
by_a_name = refl

by_an_index : jump_place paths (codes "k.0") ≡ Some (in_knot 0)
unfolding run step start fresh_at settled content_place passed_places entered_places next_place read_path target landed cut printed is_true asks
by_an_index = refl

to_an_end : where_in (threads_in (goes_on 1 paths (jumps (codes "k.1") paths (now (after 1 paths))))) ≡ Some (in_knot 1) ∷ None ∷ []
unfolding run step start fresh_at settled content_place passed_places entered_places next_place read_path target landed cut printed is_true asks
to_an_end = refl

nowhere : jump_place paths (codes "m") ≡ None
unfolding run step start fresh_at settled content_place passed_places entered_places next_place read_path target landed cut printed is_true asks
nowhere = refl

relative : jump_place paths (codes ".^.k") ≡ None
unfolding run step start fresh_at settled content_place passed_places entered_places next_place read_path target landed cut printed is_true asks
relative = refl

no_path : jump_place paths (codes "k..0") ≡ None
unfolding run step start fresh_at settled content_place passed_places entered_places next_place read_path target landed cut printed is_true asks
no_path = refl

-- ---- turns

-- a choice "Go" to `f` in `k`, and `f` asks how many turns ago `k` was entered
abbrev turns_since : ℕ → StoryTree
turns_since = λ flags. knots (diverts (codes "k") ∷ []) (evaluates (target_of (codes "k") ∷ does control.Turns ∷ [])) [] (offers (codes "f") flags ∷ does control.Done ∷ [])

a_turn_ago : stack_in (goes_on 3 (turns_since 0) (chooses 0 (turns_since 0) (now (after 3 (turns_since 0))))) ≡ value.Int (pos 1) ∷ []
unfolding run step start fresh_at settled content_place passed_places entered_places next_place read_path target landed cut printed is_true asks
a_turn_ago = refl

-- a default begins no turn
in_this_turn : stack_in (now (after 6 (turns_since 8))) ≡ value.Int (pos 0) ∷ []
unfolding run step start fresh_at settled content_place passed_places entered_places next_place read_path target landed cut printed is_true asks
in_this_turn = refl

-- a jump begins one
jumped_since : stack_in (goes_on 3 (turns_since 0) (jumps (codes "f") (turns_since 0) (now (after 3 (turns_since 0))))) ≡ value.Int (pos 1) ∷ []
unfolding run step start fresh_at settled content_place passed_places entered_places next_place read_path target landed cut printed is_true asks
jumped_since = refl

-- the number of turns stays at its most
at_its_most : (next_turn (next_turn (record (start paths []) { shared = record { globals = []; counts = record { visits = []; turns = [] }; turn = 2147483646 } }))).shared.turn ≡ 2147483647
unfolding run step start fresh_at settled content_place passed_places entered_places next_place read_path target landed cut printed is_true asks
at_its_most = refl

-- ---- a sequence

abbrev case : ℕ → List ℕ → List StoryTree
case = λ n to. does control.BeginEval ∷ does control.Duplicate ∷ leaf (leaves.Int (pos n)) ∷ leaf (leaves.Op op.Equal) ∷ does control.EndEval ∷ leaf (leaves.Divert (destination.Path to) true) ∷ []

abbrev written : List ℕ → StoryTree
written = λ t. list (does control.Pop ∷ says t ∷ diverts (codes ".^.^.17") ∷ [])

abbrev sequence : StoryTree
sequence = container None 0 (trees_of (does control.Done ∷ [])) (key (codes "k") (list (container None 5 (trees_of (evaluates (does control.Visit ∷ leaf (leaves.Int (pos 1)) ∷ leaf (leaves.Op op.Min) ∷ does control.EndEval ∷ [])
    ++ (case 0 (codes ".^.s0") ++ (case 1 (codes ".^.s1") ++ does control.Nop ∷ []))))
    (key (codes "s0") (written (codes "first")) (key (codes "s1") (written (codes "second")) no_keys)) ∷ leaf leaves.Newline ∷ does control.Done ∷ [])) no_keys)

abbrev first_jump : Option Configuration
first_jump = goes_on 17 sequence (jumps (codes "k") sequence (now (after 1 sequence)))

the_first : line_in first_jump ≡ Text (codes "first") ∷ Newline ∷ []
unfolding run step start fresh_at settled content_place passed_places entered_places next_place read_path target landed cut printed is_true asks apply
the_first = refl

the_second : line_in (goes_on 23 sequence (jumps (codes "k") sequence first_jump)) ≡ Text (codes "second") ∷ Newline ∷ []
unfolding run step start fresh_at settled content_place passed_places entered_places next_place read_path target landed cut printed is_true asks apply
the_second = refl

visited_twice : visits_in (goes_on 23 sequence (jumps (codes "k") sequence first_jump)) ≡ (in_knot 0, 2) ∷ []
unfolding run step start fresh_at settled content_place passed_places entered_places next_place read_path target landed cut printed is_true asks apply
visited_twice = refl
