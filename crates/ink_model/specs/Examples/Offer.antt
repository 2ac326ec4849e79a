-- Choice points in small steps, each proved by computation (docs/RUNNING.md, "Choices").
use Rattle.std.specs.Prelude.{◌≡◌, ℕ, pos, List, [], ◌∷◌, ◌++◌, refl, codes, map, Bool, true, false, Option, Some, None}
use Rattle.ink_model.specs.Examples.CallStories.{after, asks_after, does, fault_of, main_at, now, safe_in, says, stack_in, threads_in, where_in}
use Rattle.ink_model.specs.Examples.ChoiceStories.{choice_by, choices_in, offers, shown_as, shows, string_of, tag_of}
use Rattle.ink_model.specs.Examples.CountStories.{evaluates, flagged, knot, target_of, with_knot}
use Rattle.ink_model.specs.Flow.Threads.{alone}
use Rattle.ink_model.specs.Memory.Asks.{asks}
use Rattle.ink_model.specs.Protocol.Passage.{is_loose}
use Rattle.ink_model.specs.Run.Configuration.{Configuration, with_counts}
use Rattle.ink_model.specs.Run.Configuration.{fresh_at, settled, start}
use Rattle.ink_model.specs.Run.Entered.{entered_places, passed_places}
use Rattle.ink_model.specs.Run.Moments.{Moment}
use Rattle.ink_model.specs.Run.Moments.{moment, run}
use Rattle.ink_model.specs.Run.Place.{content_place, landed, next_place}
use Rattle.ink_model.specs.Run.Step.{nothing_bound, step}
use Rattle.ink_model.specs.Story.Path.{read_path, target}
use Rattle.ink_model.specs.Story.Tree.{StoryTree, leaf, container, key, no_keys}
use Rattle.ink_model.specs.Story.View.{trees_of}
use Rattle.ink_model.specs.Text.Clean.{clean}
use Rattle.ink_model.specs.Text.Mark.{cut}
use Rattle.ink_model.specs.Values.Value.{is_true, printed}
use Rattle.ink_model.specs.declared.content.Control.TheVariants as control
use Rattle.ink_model.specs.declared.content.Leaf.TheVariants as leaves
use Rattle.ink_model.specs.declared.fault.Fault.TheVariants as fault
use Rattle.ink_model.specs.declared.place.Part.{Part}
use Rattle.ink_model.specs.declared.value.Value.TheVariants as value

-- ---- flags

-- `ev`, "Go" as a string, `/ev`, and then the choice point, which is the sixth content
abbrev to_k : ℕ → StoryTree
to_k = λ flags. with_knot 1 (choice_by (codes "Go") (codes "k") flags) (says (codes "x") ∷ [])

-- 4: choice-only text
choice_only_text : shows (now (after 7 (to_k 4))) ≡ shown_as (codes "Go") [] ∷ []
unfolding run step start fresh_at settled content_place passed_places entered_places next_place read_path target landed cut printed is_true asks
choice_only_text = refl

-- 2: start text
start_text : shows (now (after 7 (to_k 2))) ≡ shown_as (codes "Go") [] ∷ []
unfolding run step start fresh_at settled content_place passed_places entered_places next_place read_path target landed cut printed is_true asks
start_text = refl

-- neither, and nothing is popped
no_text : shows (now (after 7 (to_k 0))) ≡ shown_as [] [] ∷ []
unfolding run step start fresh_at settled content_place passed_places entered_places next_place read_path target landed cut printed is_true asks
no_text = refl

nothing_popped : stack_in (now (after 7 (to_k 0))) ≡ value.Text (codes "Go") ∷ []
unfolding run step start fresh_at settled content_place passed_places entered_places next_place read_path target landed cut printed is_true asks
nothing_popped = refl

abbrev both : StoryTree
both = with_knot 1 (does control.BeginEval ∷ (string_of (says (codes "S ") ∷ tag_of (codes "a")) ++ string_of (tag_of (codes "b") ++ says (codes "O") ∷ [])) ++ does control.EndEval ∷ offers (codes "k") 6 ∷ []) []

-- both, with a tag on either side
both_texts_and_their_tags : shows (now (after 16 both)) ≡ shown_as (codes "S O") (codes "a" ∷ codes "b" ∷ []) ∷ []
unfolding run step start fresh_at settled content_place passed_places entered_places next_place read_path target landed cut printed is_true asks clean
both_texts_and_their_tags = refl

abbrev where_holds : Bool → StoryTree
where_holds = λ holds. with_knot 1 (does control.BeginEval ∷ (string_of (says (codes "Go") ∷ []) ++ leaf (leaves.Bool holds) ∷ does control.EndEval ∷ offers (codes "k") 5 ∷ [])) []

-- 1: a condition
a_true_condition : shows (now (after 8 (where_holds true))) ≡ shown_as (codes "Go") [] ∷ []
unfolding run step start fresh_at settled content_place passed_places entered_places next_place read_path target landed cut printed is_true asks
a_true_condition = refl

a_false_condition : shows (now (after 8 (where_holds false))) ≡ []
unfolding run step start fresh_at settled content_place passed_places entered_places next_place read_path target landed cut printed is_true asks
a_false_condition = refl

-- the text is popped all the same
popped_all_the_same : stack_in (now (after 8 (where_holds false))) ≡ []
unfolding run step start fresh_at settled content_place passed_places entered_places next_place read_path target landed cut printed is_true asks
popped_all_the_same = refl

-- 8: an invisible default, here beside a visible choice
an_invisible_default : shows (now (after 8 (with_knot 1 (choice_by (codes "Go") (codes "k") 4 ++ offers (codes "k") 8 ∷ []) []))) ≡ shown_as (codes "Go") [] ∷ []
unfolding run step start fresh_at settled content_place passed_places entered_places next_place read_path target landed cut printed is_true asks
an_invisible_default = refl

abbrev visited_before : ℕ → List Part → StoryTree → Moment
visited_before = λ n q s. moment s nothing_bound (with_counts (record { visits = (q, 1) ∷ []; turns = [] }) (start s [])) [] n

-- 16: once only
not_yet_visited : shows (now (after 7 (to_k 20))) ≡ shown_as (codes "Go") [] ∷ []
unfolding run step start fresh_at settled content_place passed_places entered_places next_place read_path target landed cut printed is_true asks
not_yet_visited = refl

visited : shows (now (visited_before 7 knot (to_k 20))) ≡ []
unfolding run step start fresh_at settled content_place passed_places entered_places next_place read_path target landed cut printed is_true asks
visited = refl

-- a sticky choice is offered again
visited_and_sticky : shows (now (visited_before 7 knot (to_k 4))) ≡ shown_as (codes "Go") [] ∷ []
unfolding run step start fresh_at settled content_place passed_places entered_places next_place read_path target landed cut printed is_true asks
visited_and_sticky = refl

-- what is counted is the very container to which the path leads, where it lands the same
counted_by_its_path : shows (now (visited_before 7 knot (with_knot 1 (choice_by (codes "Go") (codes "k.0") 20) (flagged 1 [] ∷ [])))) ≡ shown_as (codes "Go") [] ∷ []
unfolding run step start fresh_at settled content_place passed_places entered_places next_place read_path target landed cut printed is_true asks
counted_by_its_path = refl

-- ---- faults

no_text_there : fault_of (after 1 (with_knot 1 (offers (codes "k") 4 ∷ []) [])) ≡ Some fault.StackEmpty
unfolding run step start fresh_at settled content_place passed_places entered_places next_place read_path target landed cut printed is_true asks
no_text_there = refl

an_integer_for_a_text : fault_of (after 3 (with_knot 1 (does control.BeginEval ∷ leaf (leaves.Int (pos 5)) ∷ offers (codes "k") 4 ∷ []) [])) ≡ Some fault.BadOperands
unfolding run step start fresh_at settled content_place passed_places entered_places next_place read_path target landed cut printed is_true asks
an_integer_for_a_text = refl

a_target_for_a_condition : fault_of (after 3 (with_knot 1 (does control.BeginEval ∷ target_of (codes "k") ∷ offers (codes "k") 5 ∷ []) [])) ≡ Some fault.BadOperands
unfolding run step start fresh_at settled content_place passed_places entered_places next_place read_path target landed cut printed is_true asks
a_target_for_a_condition = refl

-- ---- what a choice keeps, and how flow goes on

abbrev copies_in : Option Configuration → List (List (Option (List Part)))
copies_in = λ c. map (λ choice. where_in (Some (alone choice.thread))) (choices_in c)

-- its copy of the thread is at the choice point, where flow came from the content before
a_copy_of_its_thread : copies_in (now (after 6 (to_k 4))) ≡ (main_at 4 ∷ main_at 5 ∷ []) ∷ []
unfolding run step start fresh_at settled content_place passed_places entered_places next_place read_path target landed cut printed is_true asks
a_copy_of_its_thread = refl

-- and flow moves on
moves_on : where_in (threads_in (now (after 6 (with_knot 1 (choice_by (codes "Go") (codes "k") 4 ++ says (codes "x") ∷ []) [])))) ≡ main_at 5 ∷ main_at 6 ∷ []
unfolding run step start fresh_at settled content_place passed_places entered_places next_place read_path target landed cut printed is_true asks
moves_on = refl

-- a stop off the end with a choice is no loose end
abbrev off_the_end : StoryTree
off_the_end = container None 0 (trees_of (choice_by (codes "Go") (codes "k") 4)) (key (codes "k") (flagged 1 []) no_keys)

abbrev loose_in : Option Configuration → Bool
loose_in None = true
loose_in (Some c) = is_loose c

no_loose_end : loose_in (now (after 6 off_the_end)) ≡ false
unfolding run step start fresh_at settled content_place passed_places entered_places next_place read_path target landed cut printed is_true asks
no_loose_end = refl

nor_a_safe_stop : safe_in (now (after 6 off_the_end)) ≡ false
unfolding run step start fresh_at settled content_place passed_places entered_places next_place read_path target landed cut printed is_true asks
nor_a_safe_stop = refl

-- ---- `choiceCnt`

-- counts the invisible ones too, whatever the mode
how_many_choices : stack_in (now (after 8 (with_knot 1 (choice_by (codes "Go") (codes "k") 4 ++ offers (codes "k") 8 ∷ does control.ChoiceCount ∷ []) []))) ≡ value.Int (pos 2) ∷ []
unfolding run step start fresh_at settled content_place passed_places entered_places next_place read_path target landed cut printed is_true asks
how_many_choices = refl

after_one_choice : stack_in (now (after 8 (with_knot 1 (choice_by (codes "Go") (codes "k") 4 ++ evaluates (does control.ChoiceCount ∷ [])) []))) ≡ value.Int (pos 1) ∷ []
unfolding run step start fresh_at settled content_place passed_places entered_places next_place read_path target landed cut printed is_true asks
after_one_choice = refl

-- ---- where memory is asked for

a_choice_that_is_made : asks_after 5 (to_k 4) ≡ true
unfolding run step start fresh_at settled content_place passed_places entered_places next_place read_path target landed cut printed is_true asks
a_choice_that_is_made = refl

no_choice_is_made : asks_after 6 (where_holds false) ≡ false
unfolding run step start fresh_at settled content_place passed_places entered_places next_place read_path target landed cut printed is_true asks
no_choice_is_made = refl
