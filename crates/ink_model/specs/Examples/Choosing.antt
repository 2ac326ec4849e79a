-- Choices that a host takes, each proved by computation (docs/RUNNING.md, "Choosing and jumping").
use Rattle.std.specs.Prelude.{◌≡◌, ℕ, pos, List, [], ◌∷◌, ◌++◌, refl, codes, map, true, Option, Some, None, option_and_then}
use Rattle.ink_model.specs.Examples.CallStories.{after, all_places, calls, does, in_f, line_in, main_at, modes_in, now, safe_in, says, stack_in, threads_in, tunnels, where_in}
use Rattle.ink_model.specs.Examples.ChoiceStories.{choice_by, choices_in, chooses, goes_on, knots, offers, shown_as, shows, turn_in}
use Rattle.ink_model.specs.Examples.CountStories.{diverts, evaluates, in_knot, knot, temporaries_in, turns_in, visits_in, with_knot}
use Rattle.ink_model.specs.Examples.Variable.{a, one}
use Rattle.ink_model.specs.Memory.Asks.{asks}
use Rattle.ink_model.specs.Run.Configuration.{Configuration}
use Rattle.ink_model.specs.Run.Configuration.{fresh_at, settled, start}
use Rattle.ink_model.specs.Run.Entered.{entered_places, passed_places}
use Rattle.ink_model.specs.Run.Moments.{run}
use Rattle.ink_model.specs.Run.Place.{content_place, landed, next_place}
use Rattle.ink_model.specs.Run.Step.{step}
use Rattle.ink_model.specs.Story.Path.{read_path, target}
use Rattle.ink_model.specs.Story.Tree.{StoryTree, leaf, container, key, no_keys}
use Rattle.ink_model.specs.Story.View.{trees_of}
use Rattle.ink_model.specs.Text.Mark.{cut}
use Rattle.ink_model.specs.Values.Value.{is_true, printed}
use Rattle.ink_model.specs.declared.content.Control.TheVariants as control
use Rattle.ink_model.specs.declared.content.Destination.TheVariants as destination
use Rattle.ink_model.specs.declared.content.Leaf.TheVariants as leaves
use Rattle.ink_model.specs.declared.mark.Mark.TheVariants.{Text}
use Rattle.ink_model.specs.declared.value.Value.TheVariants as value

-- ---- what is left

-- a choice "Go" to `k`, and `done`; the choice point is the sixth content
abbrev to_k : List StoryTree → StoryTree
to_k = λ k. with_knot 3 (choice_by (codes "Go") (codes "k") 4) k

abbrev chosen_k : List StoryTree → Option Configuration
chosen_k = λ k. chooses 0 (to_k k) (now (after 7 (to_k k)))

-- flow is where the choice leads, and has come from before the choice point
where_it_leads : where_in (threads_in (chosen_k (says (codes "x") ∷ []))) ≡ main_at 4 ∷ Some (in_knot 0) ∷ []
unfolding run step start fresh_at settled content_place passed_places entered_places next_place read_path target landed cut printed is_true asks
where_it_leads = refl

none_is_left : choices_in (chosen_k (says (codes "x") ∷ [])) ≡ []
unfolding run step start fresh_at settled content_place passed_places entered_places next_place read_path target landed cut printed is_true asks
none_is_left = refl

another_turn : turn_in (chosen_k (says (codes "x") ∷ [])) ≡ Some 1
unfolding run step start fresh_at settled content_place passed_places entered_places next_place read_path target landed cut printed is_true asks
another_turn = refl

-- the containers around are entered in that turn
entered_in_that_turn : turns_in (chosen_k (says (codes "x") ∷ [])) ≡ (knot, 1) ∷ []
unfolding run step start fresh_at settled content_place passed_places entered_places next_place read_path target landed cut printed is_true asks
entered_in_that_turn = refl

-- a safe stop stays one until the story runs on
as_safe_as_before : safe_in (chosen_k (says (codes "x") ∷ [])) ≡ true
unfolding run step start fresh_at settled content_place passed_places entered_places next_place read_path target landed cut printed is_true asks
as_safe_as_before = refl

goes_on_from_there : line_in (goes_on 1 (to_k (says (codes "x") ∷ [])) (chosen_k (says (codes "x") ∷ []))) ≡ Text (codes "x") ∷ []
unfolding run step start fresh_at settled content_place passed_places entered_places next_place read_path target landed cut printed is_true asks
goes_on_from_there = refl

-- a knot that the choice stands in is not entered again
abbrev in_itself : StoryTree
in_itself = with_knot 1 (diverts (codes "k") ∷ []) (choice_by (codes "Go") (codes "k.7") 4 ++ does control.Done ∷ says (codes "x") ∷ [])

not_entered_again : visits_in (chooses 0 in_itself (now (after 8 in_itself))) ≡ (knot, 1) ∷ []
unfolding run step start fresh_at settled content_place passed_places entered_places next_place read_path target landed cut printed is_true asks
not_entered_again = refl

-- ---- which choice

abbrev after_a_default : StoryTree
after_a_default = knots (offers (codes "f") 8 ∷ choice_by (codes "Go") (codes "k") 4) (says (codes "f") ∷ []) [] (says (codes "x") ∷ [])

-- an invisible one is not counted
only_visible_ones : where_in (threads_in (chooses 0 after_a_default (now (after 8 after_a_default)))) ≡ main_at 5 ∷ Some (in_knot 0) ∷ []
unfolding run step start fresh_at settled content_place passed_places entered_places next_place read_path target landed cut printed is_true asks
only_visible_ones = refl

no_other : chooses 1 after_a_default (now (after 8 after_a_default)) ≡ None
unfolding run step start fresh_at settled content_place passed_places entered_places next_place read_path target landed cut printed is_true asks
no_other = refl

-- and none while flow goes on
not_yet : chooses 0 (to_k []) (now (after 6 (to_k []))) ≡ None
unfolding run step start fresh_at settled content_place passed_places entered_places next_place read_path target landed cut printed is_true asks
not_yet = refl

-- ---- copies of threads

abbrev changed_later : StoryTree
changed_later = with_knot 1 (evaluates (leaf (leaves.Int (pos 1)) ∷ leaf (leaves.DeclareTemp (codes "a")) ∷ does control.EndEval ∷ offers (codes "k") 0
    ∷ evaluates (leaf (leaves.Int (pos 2)) ∷ leaf (leaves.AssignTemp (codes "a")) ∷ []))) (says (codes "x") ∷ [])

-- what was assigned after the choice is not in its copy
as_it_was : temporaries_in (chooses 0 changed_later (now (after 9 changed_later))) ≡ one a (value.Int (pos 1))
unfolding run step start fresh_at settled content_place passed_places entered_places next_place read_path target landed cut printed is_true asks
as_it_was = refl

where_it_went_on : temporaries_in (now (after 9 changed_later)) ≡ one a (value.Int (pos 2))
unfolding run step start fresh_at settled content_place passed_places entered_places next_place read_path target landed cut printed is_true asks
where_it_went_on = refl

-- the copy keeps its mode
abbrev while_evaluating : StoryTree
while_evaluating = with_knot 1 (does control.BeginEval ∷ offers (codes "k") 0 ∷ does control.EndEval ∷ []) []

mode_of_the_copy : modes_in (threads_in (chooses 0 while_evaluating (now (after 4 while_evaluating)))) ≡ true ∷ []
unfolding run step start fresh_at settled content_place passed_places entered_places next_place read_path target landed cut printed is_true asks
mode_of_the_copy = refl

-- the stack is no thread's
stack_stays : stack_in (chooses 0 (with_knot 1 (choice_by (codes "Go") (codes "k") 0) []) (now (after 7 (with_knot 1 (choice_by (codes "Go") (codes "k") 0) [])))) ≡ value.Text (codes "Go") ∷ []
unfolding run step start fresh_at settled content_place passed_places entered_places next_place read_path target landed cut printed is_true asks
stack_stays = refl

-- a choice in a function that had its Enter on the line
abbrev in_a_function : StoryTree
in_a_function = knots (calls (codes "f") ∷ []) (offers (codes "k") 0 ∷ does control.Done ∷ []) [] (says (codes "x") ∷ [])

abbrev numbers_in : Option Configuration → List (List (Option ℕ))
numbers_in = λ c. map (λ choice. map (λ f. f.enter) (choice.thread.frame ∷ choice.thread.below)) (choices_in c)

numbers_on_the_line : numbers_in (now (after 3 in_a_function)) ≡ (Some 0 ∷ None ∷ []) ∷ []
unfolding run step start fresh_at settled content_place passed_places entered_places next_place read_path target landed cut printed is_true asks
numbers_on_the_line = refl

-- between commands no frame has a number
no_numbers_later : numbers_in (option_and_then (λ c. Some (settled c)) (now (after 3 in_a_function))) ≡ (None ∷ None ∷ []) ∷ []
unfolding run step start fresh_at settled content_place passed_places entered_places next_place read_path target landed cut printed is_true asks
no_numbers_later = refl

-- ---- threads

abbrev by_threads : StoryTree
by_threads = knots (does control.Thread ∷ diverts (codes "f") ∷ does control.Thread ∷ diverts (codes "g") ∷ does control.Done ∷ [])
    (choice_by (codes "A") (codes "k") 4 ++ does control.Done ∷ []) (choice_by (codes "C") (codes "k") 4 ++ does control.Done ∷ []) (says (codes "x") ∷ [])

-- choices of several threads stand in the order in which they were made
in_their_order : shows (now (after 19 by_threads)) ≡ shown_as (codes "A") [] ∷ shown_as (codes "C") [] ∷ []
unfolding run step start fresh_at settled content_place passed_places entered_places next_place read_path target landed cut printed is_true asks
in_their_order = refl

-- the copy is the only thread then
its_copy_alone : all_places (threads_in (chooses 1 by_threads (now (after 19 by_threads)))) ≡ Some (in_knot 0) ∷ []
unfolding run step start fresh_at settled content_place passed_places entered_places next_place read_path target landed cut printed is_true asks
its_copy_alone = refl

abbrev in_a_tunnel : StoryTree
in_a_tunnel = knots (tunnels (destination.Path (codes "f")) ∷ says (codes "y") ∷ []) (does control.Thread ∷ diverts (codes "g") ∷ goes_back) (offers (codes "k") 0 ∷ does control.Done ∷ []) (says (codes "x") ∷ goes_back)
  where
    goes_back : List StoryTree
    goes_back = does control.BeginEval ∷ leaf leaves.Void ∷ does control.EndEval ∷ does control.ReturnTunnel ∷ []

-- a choice of a thread in a tunnel that has come back since: its copy is in the tunnel still
in_the_tunnel_still : where_in (threads_in (chooses 0 in_a_tunnel (now (after 11 in_a_tunnel)))) ≡ in_f 1 ∷ Some (in_knot 0) ∷ main_at 0 ∷ []
unfolding run step start fresh_at settled content_place passed_places entered_places next_place read_path target landed cut printed is_true asks
in_the_tunnel_still = refl

-- which comes back once more
comes_back_again : line_in (goes_on 6 in_a_tunnel (chooses 0 in_a_tunnel (now (after 11 in_a_tunnel)))) ≡ Text (codes "x") ∷ Text (codes "y") ∷ []
unfolding run step start fresh_at settled content_place passed_places entered_places next_place read_path target landed cut printed is_true asks
comes_back_again = refl

-- ---- once only

-- "Go" to `f` once only, which leads back here, and a default to `g`
abbrev once : StoryTree
once = container None 0 (trees_of (diverts (codes "k") ∷ [])) (key (codes "f") (container None 5 (trees_of (diverts (codes "k") ∷ [])) no_keys) (key (codes "g") (container None 5 (trees_of (evaluates (does control.Turn ∷ []))) no_keys)
    (key (codes "k") (container None 0 (trees_of (choice_by (codes "Go") (codes "f") 20 ++ offers (codes "g") 24 ∷ does control.Done ∷ [])) no_keys) no_keys)))

first_time : shows (now (after 9 once)) ≡ shown_as (codes "Go") [] ∷ []
unfolding run step start fresh_at settled content_place passed_places entered_places next_place read_path target landed cut printed is_true asks
first_time = refl

-- "Go" is not offered again, so that the default is followed, in the turn that it began
second_time : stack_in (goes_on 11 once (chooses 0 once (now (after 9 once)))) ≡ value.Int (pos 1) ∷ []
unfolding run step start fresh_at settled content_place passed_places entered_places next_place read_path target landed cut printed is_true asks
second_time = refl
