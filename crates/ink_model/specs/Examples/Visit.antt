-- Which containers are entered where a story goes, each proved by computation (docs/RUNNING.md, "Visits").
use Rattle.std.specs.Prelude.{◌≡◌, ℕ, List, [], ◌∷◌, refl, codes, None, Some}
use Rattle.ink_model.specs.Examples.CallStories.{after, now, says}
use Rattle.ink_model.specs.Examples.CountStories.{diverts, flagged, in_knot, knot, turns_in, visits_after, with_knot}
use Rattle.ink_model.specs.Run.Configuration.{start, fresh_at, with_counts}
use Rattle.ink_model.specs.Run.Entered.{entered_places, passed_places}
use Rattle.ink_model.specs.Run.Moments.{moment, run}
use Rattle.ink_model.specs.Run.Place.{content_place, landed, next_place}
use Rattle.ink_model.specs.Run.Step.{nothing_bound, step}
use Rattle.ink_model.specs.Story.Path.{read_path, target}
use Rattle.ink_model.specs.Story.Tree.{StoryTree, container, key, no_keys}
use Rattle.ink_model.specs.Story.View.{trees_of}
use Rattle.ink_model.specs.Text.Mark.{cut}
use Rattle.ink_model.specs.Values.Value.{is_true, printed}
use Rattle.ink_model.specs.declared.place.Part.TheVariants.{Index, Name}

-- ---- where flow starts, and what a step goes into

abbrev in_a_list : StoryTree
in_a_list = flagged 0 (flagged 1 (flagged 1 (says (codes "x") ∷ []) ∷ []) ∷ [])

-- the outermost first
goes_in : passed_places in_a_list (Index 0 ∷ []) ≡ (Index 0 ∷ []) ∷ (Index 0 ∷ Index 0 ∷ []) ∷ []
unfolding run step start fresh_at content_place passed_places entered_places next_place read_path target landed cut printed is_true
goes_in = refl

-- a step enters what it goes into, each as at its start
a_step_enters : visits_after (after 1 in_a_list) ≡ (Index 0 ∷ [], 1) ∷ (Index 0 ∷ Index 0 ∷ [], 1) ∷ []
unfolding run step start fresh_at content_place passed_places entered_places next_place read_path target landed cut printed is_true
a_step_enters = refl

-- the start enters no container around
the_start : visits_after (after 1 (flagged 1 (says (codes "x") ∷ []))) ≡ []
unfolding run step start fresh_at content_place passed_places entered_places next_place read_path target landed cut printed is_true
the_start = refl

-- where the root is empty flow starts on it, and the step enters it
an_empty_root : visits_after (after 1 (flagged 1 [])) ≡ ([], 1) ∷ []
unfolding run step start fresh_at content_place passed_places entered_places next_place read_path target landed cut printed is_true
an_empty_root = refl

-- ---- written diverts

abbrev to_k : ℕ → List StoryTree → StoryTree
to_k = λ flags k. with_knot flags (diverts (codes "k") ∷ []) k

a_divert_enters : visits_after (after 1 (to_k 3 (says (codes "x") ∷ []))) ≡ (knot, 1) ∷ []
unfolding run step start fresh_at content_place passed_places entered_places next_place read_path target landed cut printed is_true
a_divert_enters = refl

-- flags 2: the turn is noted
a_turn_is_noted : turns_in (now (after 1 (to_k 3 (says (codes "x") ∷ [])))) ≡ (knot, 0) ∷ []
unfolding run step start fresh_at content_place passed_places entered_places next_place read_path target landed cut printed is_true
a_turn_is_noted = refl

-- a knot that diverts to itself was around before
to_itself : visits_after (after 3 (to_k 1 (says (codes "x") ∷ diverts (codes "k") ∷ []))) ≡ (knot, 1) ∷ []
unfolding run step start fresh_at content_place passed_places entered_places next_place read_path target landed cut printed is_true
to_itself = refl

-- so was one to whose first content it goes back
back_to_its_start : visits_after (after 3 (to_k 1 (says (codes "x") ∷ diverts (codes "k.0") ∷ []))) ≡ (knot, 1) ∷ []
unfolding run step start fresh_at content_place passed_places entered_places next_place read_path target landed cut printed is_true
back_to_its_start = refl

-- flag 4: entry at the start counts, wherever flow comes from
to_its_own_start : visits_after (after 3 (to_k 5 (says (codes "x") ∷ diverts (codes "k") ∷ []))) ≡ (knot, 2) ∷ []
unfolding run step start fresh_at content_place passed_places entered_places next_place read_path target landed cut printed is_true
to_its_own_start = refl

-- and no other does
in_the_middle_by_flag_4 : visits_after (after 1 (with_knot 5 (diverts (codes "k.1") ∷ []) (says (codes "x") ∷ says (codes "y") ∷ []))) ≡ []
unfolding run step start fresh_at content_place passed_places entered_places next_place read_path target landed cut printed is_true
in_the_middle_by_flag_4 = refl

-- without it, entry in the middle counts too
in_the_middle_by_flag_1 : visits_after (after 1 (with_knot 1 (diverts (codes "k.1") ∷ []) (says (codes "x") ∷ says (codes "y") ∷ []))) ≡ (knot, 1) ∷ []
unfolding run step start fresh_at content_place passed_places entered_places next_place read_path target landed cut printed is_true
in_the_middle_by_flag_1 = refl

abbrev siblings : StoryTree
siblings = to_k 1 (flagged 1 (diverts (codes "k.1") ∷ []) ∷ flagged 1 (says (codes "x") ∷ []) ∷ [])

-- from one container of a knot to the next the knot is not entered again
from_a_sibling : visits_after (after 3 siblings) ≡ (knot, 1) ∷ (in_knot 0, 1) ∷ (in_knot 1, 1) ∷ []
unfolding run step start fresh_at content_place passed_places entered_places next_place read_path target landed cut printed is_true
from_a_sibling = refl

-- a landing looks from the inmost outward
the_inmost_first : entered_places siblings (Some (Index 0 ∷ Index 0 ∷ [])) (Name (codes "k") ∷ Index 1 ∷ Index 0 ∷ []) ≡ in_knot 1 ∷ knot ∷ []
unfolding run step start fresh_at content_place passed_places entered_places next_place read_path target landed cut printed is_true
the_inmost_first = refl

-- at a container's end nothing stands, and nothing is entered
at_an_end : visits_after (after 1 (with_knot 1 (diverts (codes "k.1") ∷ []) (says (codes "x") ∷ []))) ≡ []
unfolding run step start fresh_at content_place passed_places entered_places next_place read_path target landed cut printed is_true
at_an_end = refl

abbrev in_a_knot : List ℕ → StoryTree
in_a_knot = λ path. container None 0 (trees_of (diverts path ∷ [])) (key (codes "k") (container None 1 (trees_of (says (codes "x") ∷ [])) (key (codes "n") (flagged 1 (says (codes "x") ∷ [])) no_keys)) no_keys)

-- a written path to a container in a knot enters both
both_are_entered : visits_after (after 1 (in_a_knot (codes "k.n"))) ≡ (knot, 1) ∷ (Name (codes "k") ∷ Name (codes "n") ∷ [], 1) ∷ []
unfolding run step start fresh_at content_place passed_places entered_places next_place read_path target landed cut printed is_true
both_are_entered = refl

-- ---- a count stays at its most

at_its_most : visits_after (moment (to_k 1 (says (codes "x") ∷ [])) nothing_bound (with_counts (record { visits = (knot, 2147483647) ∷ []; turns = [] }) (start (to_k 1 (says (codes "x") ∷ [])) [])) [] 1) ≡ (knot, 2147483647) ∷ []
unfolding run step start fresh_at content_place passed_places entered_places next_place read_path target landed cut printed is_true
at_its_most = refl
