-- Invisible defaults that are followed where flow stops, each proved by computation (docs/RUNNING.md, "Stops").
use Rattle.std.specs.Prelude.{◌≡◌, ℕ, List, [], ◌∷◌, ◌++◌, refl, codes, true, false, Some, None}
use Rattle.ink_model.specs.Examples.CallStories.{after, all_places, calls, does, fault_of, in_f, line_of, main_at, now, safe_in, says, threads_in, where_in}
use Rattle.ink_model.specs.Examples.ChoiceStories.{choice_by, choices_in, offers, knots, shown_as, shows, turn_in}
use Rattle.ink_model.specs.Examples.CountStories.{diverts, flagged, in_knot, knot, turns_in, with_knot}
use Rattle.ink_model.specs.Flow.Frames.{base_threads}
use Rattle.ink_model.specs.Host.Bindings.{nothing_bound}
use Rattle.ink_model.specs.Memory.Asks.{asks}
use Rattle.ink_model.specs.Run.Configuration.{Configuration, with_choices, with_counts}
use Rattle.ink_model.specs.Run.Configuration.{fresh_at, settled, start}
use Rattle.ink_model.specs.Run.Entered.{entered_places, passed_places}
use Rattle.ink_model.specs.Run.Moments.{run}
use Rattle.ink_model.specs.Run.Place.{content_place, landed, next_place}
use Rattle.ink_model.specs.Run.Step.{step}
use Rattle.ink_model.specs.Story.Path.{read_path, target}
use Rattle.ink_model.specs.Story.Tree.{StoryTree, container, key, no_keys}
use Rattle.ink_model.specs.Story.View.{trees_of}
use Rattle.ink_model.specs.Text.Mark.{cut}
use Rattle.ink_model.specs.Values.Value.{is_true, printed}
use Rattle.ink_model.specs.declared.content.Control.TheVariants as control
use Rattle.ink_model.specs.declared.fault.Fault.TheVariants as fault
use Rattle.ink_model.specs.declared.mark.Mark.TheVariants.{Text}
use Rattle.ink_model.specs.declared.place.Part.{Part}
use Rattle.ink_model.specs.declared.place.Part.TheVariants.{Index, Name}

-- ---- where flow stops by `done`

-- an invisible default to `k`, and `done`
abbrev to_k : List StoryTree → StoryTree
to_k = λ k. with_knot 3 (says (codes "a") ∷ offers (codes "k") 8 ∷ does control.Done ∷ []) k

-- in the same step flow is where the default leads, and has come from before the choice point
in_the_same_step : where_in (threads_in (now (after 3 (to_k (says (codes "x") ∷ []))))) ≡ main_at 0 ∷ Some (in_knot 0) ∷ []
unfolding run step start fresh_at settled content_place passed_places entered_places next_place read_path target landed cut printed is_true asks
in_the_same_step = refl

-- no choice is left, and `choiceCnt` begins again
none_is_left : choices_in (now (after 3 (to_k (says (codes "x") ∷ [])))) ≡ []
unfolding run step start fresh_at settled content_place passed_places entered_places next_place read_path target landed cut printed is_true asks
none_is_left = refl

-- without a turn
no_turn : turn_in (now (after 3 (to_k (says (codes "x") ∷ [])))) ≡ Some 0
unfolding run step start fresh_at settled content_place passed_places entered_places next_place read_path target landed cut printed is_true asks
no_turn = refl

-- the containers around are entered, in the turn that goes on
entered_in_this_turn : turns_in (now (after 3 (to_k (says (codes "x") ∷ [])))) ≡ (knot, 0) ∷ []
unfolding run step start fresh_at settled content_place passed_places entered_places next_place read_path target landed cut printed is_true asks
entered_in_this_turn = refl

-- the stop by `done` stays safe
stays_safe : safe_in (now (after 3 (to_k (says (codes "x") ∷ [])))) ≡ true
unfolding run step start fresh_at settled content_place passed_places entered_places next_place read_path target landed cut printed is_true asks
stays_safe = refl

-- and flow goes on to another stop
to_another_stop : where_in (threads_in (now (after 4 (to_k (says (codes "x") ∷ []))))) ≡ Some (in_knot 0) ∷ None ∷ []
unfolding run step start fresh_at settled content_place passed_places entered_places next_place read_path target landed cut printed is_true asks
to_another_stop = refl

what_is_written : line_of (after 4 (to_k (says (codes "x") ∷ []))) ≡ Text (codes "a") ∷ Text (codes "x") ∷ []
unfolding run step start fresh_at settled content_place passed_places entered_places next_place read_path target landed cut printed is_true asks
what_is_written = refl

-- at which there may be choices
to_a_choice : shows (now (after 10 (to_k (choice_by (codes "Go") (codes "k") 4 ++ does control.Done ∷ [])))) ≡ shown_as (codes "Go") [] ∷ []
unfolding run step start fresh_at settled content_place passed_places entered_places next_place read_path target landed cut printed is_true asks
to_a_choice = refl

-- or another default
to_another_default : where_in (threads_in (now (after 4 (knots (offers (codes "f") 8 ∷ does control.Done ∷ []) (offers (codes "g") 8 ∷ does control.Done ∷ []) (says (codes "x") ∷ []) [])))) ≡ None ∷ Some (Name (codes "g") ∷ Index 0 ∷ []) ∷ []
unfolding run step start fresh_at settled content_place passed_places entered_places next_place read_path target landed cut printed is_true asks
to_another_default = refl

-- ---- which, and where there is none

-- the first of several
the_first : where_in (threads_in (now (after 3 (knots (offers (codes "f") 8 ∷ offers (codes "g") 8 ∷ does control.Done ∷ []) (says (codes "x") ∷ []) (says (codes "y") ∷ []) [])))) ≡ None ∷ in_f 0 ∷ []
unfolding run step start fresh_at settled content_place passed_places entered_places next_place read_path target landed cut printed is_true asks
the_first = refl

-- beside a visible choice none is followed
beside_a_visible_choice : where_in (threads_in (now (after 8 (with_knot 1 (choice_by (codes "Go") (codes "k") 4 ++ offers (codes "k") 8 ∷ []) [])))) ≡ main_at 6 ∷ None ∷ []
unfolding run step start fresh_at settled content_place passed_places entered_places next_place read_path target landed cut printed is_true asks
beside_a_visible_choice = refl

-- a default whose condition is false, or that is used up, is no choice
used_up : where_in (threads_in (now (after 6 (with_knot 1 (offers (codes "k") 24 ∷ does control.Done ∷ []) (diverts (codes "0.0") ∷ []))))) ≡ main_at 0 ∷ None ∷ []
unfolding run step start fresh_at settled content_place passed_places entered_places next_place read_path target landed cut printed is_true asks
used_up = refl

-- a string that is open is looked for before
an_open_string : fault_of (after 4 (with_knot 1 (offers (codes "k") 8 ∷ does control.BeginEval ∷ does control.BeginString ∷ does control.Done ∷ []) [])) ≡ Some fault.StopInString
unfolding run step start fresh_at settled content_place passed_places entered_places next_place read_path target landed cut printed is_true asks
an_open_string = refl

-- ---- other stops

abbrev at_the_root : List StoryTree → StoryTree
at_the_root = λ ts. container None 0 (trees_of ts) (key (codes "k") (flagged 1 (says (codes "x") ∷ [])) no_keys)

-- off the end: here in the step of the choice point itself
off_the_end : where_in (threads_in (now (after 1 (at_the_root (offers (codes "k") 8 ∷ []))))) ≡ None ∷ Some (in_knot 0) ∷ []
unfolding run step start fresh_at settled content_place passed_places entered_places next_place read_path target landed cut printed is_true asks
off_the_end = refl

-- which is no safe stop
off_the_end_is_not_safe : safe_in (now (after 1 (at_the_root (offers (codes "k") 8 ∷ [])))) ≡ false
unfolding run step start fresh_at settled content_place passed_places entered_places next_place read_path target landed cut printed is_true asks
off_the_end_is_not_safe = refl

-- `thread` at the end of a story copies nothing
at_a_thread : all_places (threads_in (now (after 2 (at_the_root (offers (codes "k") 8 ∷ does control.Thread ∷ []))))) ≡ Some (in_knot 0) ∷ []
unfolding run step start fresh_at settled content_place passed_places entered_places next_place read_path target landed cut printed is_true asks
at_a_thread = refl

-- `end` leaves no choice to follow
after_end : where_in (threads_in (now (after 2 (at_the_root (offers (codes "k") 8 ∷ does control.End ∷ []))))) ≡ None ∷ None ∷ []
unfolding run step start fresh_at settled content_place passed_places entered_places next_place read_path target landed cut printed is_true asks
after_end = refl

-- a thread that is done stops nothing
a_thread_that_is_done : where_in (threads_in (now (after 4 (knots (does control.Thread ∷ diverts (codes "f") ∷ says (codes "y") ∷ []) (offers (codes "k") 8 ∷ does control.Done ∷ []) [] (says (codes "x") ∷ []))))) ≡ main_at 1 ∷ main_at 2 ∷ []
unfolding run step start fresh_at settled content_place passed_places entered_places next_place read_path target landed cut printed is_true asks
a_thread_that_is_done = refl

-- flow goes on with the frames that the default's thread had
in_a_function : where_in (threads_in (now (after 3 (knots (calls (codes "f") ∷ []) (offers (codes "k") 8 ∷ does control.Done ∷ []) [] (says (codes "x") ∷ []))))) ≡ main_at 0 ∷ Some (in_knot 0) ∷ main_at 0 ∷ []
unfolding run step start fresh_at settled content_place passed_places entered_places next_place read_path target landed cut printed is_true asks
in_a_function = refl

-- ---- where memory is asked for

-- a default to `k` waits, and flow is at `done`
abbrev waiting_default : List (List Part × ℕ) → Configuration
waiting_default = λ visits. with_choices (record { text = []; tags = []; target = in_knot 0; hidden = true; thread = (base_threads (main_at 0)).thread } ∷ [])
    (with_counts (record { visits = visits; turns = [] }) (fresh_at (Index 0 ∷ Index 0 ∷ [])))

-- a default's landing may be a first visit
a_first_visit : asks (with_knot 1 (does control.Done ∷ []) (says (codes "x") ∷ [])) nothing_bound (waiting_default []) ≡ true
unfolding run step start fresh_at settled content_place passed_places entered_places next_place read_path target landed cut printed is_true asks
a_first_visit = refl

a_second_visit : asks (with_knot 1 (does control.Done ∷ []) (says (codes "x") ∷ [])) nothing_bound (waiting_default ((knot, 1) ∷ [])) ≡ false
unfolding run step start fresh_at settled content_place passed_places entered_places next_place read_path target landed cut printed is_true asks
a_second_visit = refl
