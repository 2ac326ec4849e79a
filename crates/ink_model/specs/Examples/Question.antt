-- What is asked of visits and turns, each proved by computation (docs/RUNNING.md, "Questions for counts").
use Rattle.std.specs.Prelude.{◌≡◌, ℕ, pos, negsuc, List, [], ◌∷◌, refl, codes, Some, None}
use Rattle.std.proofs.lemmas.Str.{is_utf8-from_IsUtf8}
use Rattle.std.specs.Char.{encode_utf8}
use Rattle.ink_model.specs.Examples.CallStories.{after, does, fault_of, now, says, stack_in}
use Rattle.ink_model.specs.Examples.CountStories.{diverts, flagged, target_of, with_knot}
use Rattle.ink_model.specs.Protocol.Answer.{Counts, Refuses}
use Rattle.ink_model.specs.Protocol.Command as command
use Rattle.ink_model.specs.Protocol.Command.{command_of}
use Rattle.ink_model.specs.Protocol.Session.{Visits}
use Rattle.ink_model.specs.Protocol.State.{State, Broken}
use Rattle.ink_model.specs.Run.Configuration.{start, fresh_at}
use Rattle.ink_model.specs.Run.Entered.{entered_places, passed_places}
use Rattle.ink_model.specs.Run.Flows.{one_flow}
use Rattle.ink_model.specs.Run.Moments.{run}
use Rattle.ink_model.specs.Run.Opening.{opened}
use Rattle.ink_model.specs.Run.Place.{content_place, landed, next_place}
use Rattle.ink_model.specs.Run.Step.{step}
use Rattle.ink_model.specs.Story.Path.{read_path, target}
use Rattle.ink_model.specs.Story.Tree.{StoryTree, leaf}
use Rattle.ink_model.specs.Text.Mark.{cut}
use Rattle.ink_model.specs.Values.Value.{is_true, printed}
use Rattle.ink_model.specs.declared.content.Control.{Control}
use Rattle.ink_model.specs.declared.content.Control.TheVariants as control
use Rattle.ink_model.specs.declared.content.Leaf.TheVariants as leaves
use Rattle.ink_model.specs.declared.fault.Fault.TheVariants as fault
use Rattle.ink_model.specs.declared.fault.Refusal.TheVariants as refusal
use Rattle.ink_model.specs.declared.value.Value.TheVariants as value

-- a question about a target, beside a knot of these flags
abbrev asked_of : ℕ → List ℕ → Control → StoryTree
asked_of flags path question = with_knot flags (does control.BeginEval ∷ target_of path ∷ does question ∷ []) (says (codes "x") ∷ [])

-- ---- the visits of a container

-- `CNT?`
a_count : stack_in (now (after 2 (with_knot 1 (diverts (codes "k") ∷ []) (leaf (leaves.Count (codes "k")) ∷ [])))) ≡ value.Int (pos 1) ∷ []
unfolding run step start fresh_at content_place passed_places entered_places next_place read_path target landed cut printed is_true
a_count = refl

-- `visit` is of the container that holds it, without the visit that is going on
a_visit : stack_in (now (after 2 (with_knot 1 (diverts (codes "k") ∷ []) (does control.Visit ∷ [])))) ≡ value.Int (pos 0) ∷ []
unfolding run step start fresh_at content_place passed_places entered_places next_place read_path target landed cut printed is_true
a_visit = refl

-- where it was never entered that is -1
before_any_visit : stack_in (now (after 1 (flagged 1 (does control.Visit ∷ [])))) ≡ value.Int (negsuc 0) ∷ []
unfolding run step start fresh_at content_place passed_places entered_places next_place read_path target landed cut printed is_true
before_any_visit = refl

a_visit_not_counted : fault_of (after 1 (with_knot 1 (does control.Visit ∷ []) (says (codes "x") ∷ []))) ≡ Some fault.NotCounted
unfolding run step start fresh_at content_place passed_places entered_places next_place read_path target landed cut printed is_true
a_visit_not_counted = refl

-- `readc` of a target that was popped
a_read_count : stack_in (now (after 4 (with_knot 1 (diverts (codes "k") ∷ []) (does control.BeginEval ∷ target_of (codes "k") ∷ does control.ReadCount ∷ [])))) ≡ value.Int (pos 1) ∷ []
unfolding run step start fresh_at content_place passed_places entered_places next_place read_path target landed cut printed is_true
a_read_count = refl

-- a container that was never entered
none_yet : stack_in (now (after 3 (asked_of 1 (codes "k") control.ReadCount))) ≡ value.Int (pos 0) ∷ []
unfolding run step start fresh_at content_place passed_places entered_places next_place read_path target landed cut printed is_true
none_yet = refl

-- what is no container has none
visits_of_a_text : stack_in (now (after 3 (asked_of 1 (codes "k.0") control.ReadCount))) ≡ value.Int (pos 0) ∷ []
unfolding run step start fresh_at content_place passed_places entered_places next_place read_path target landed cut printed is_true
visits_of_a_text = refl

a_read_count_not_counted : fault_of (after 3 (asked_of 2 (codes "k") control.ReadCount)) ≡ Some fault.NotCounted
unfolding run step start fresh_at content_place passed_places entered_places next_place read_path target landed cut printed is_true
a_read_count_not_counted = refl

-- a knot that goes round shows the same count each time
the_same_each_time : stack_in (now (after 4 (with_knot 1 (diverts (codes "k") ∷ []) (leaf (leaves.Count (codes "k")) ∷ diverts (codes "k") ∷ [])))) ≡ value.Int (pos 1) ∷ value.Int (pos 1) ∷ []
unfolding run step start fresh_at content_place passed_places entered_places next_place read_path target landed cut printed is_true
the_same_each_time = refl

-- ---- turns

-- the number of the turn
the_turn : stack_in (now (after 1 (with_knot 0 (does control.Turn ∷ []) (says (codes "x") ∷ [])))) ≡ value.Int (pos 0) ∷ []
unfolding run step start fresh_at content_place passed_places entered_places next_place read_path target landed cut printed is_true
the_turn = refl

-- entered in this turn
in_this_turn : stack_in (now (after 4 (with_knot 2 (diverts (codes "k") ∷ []) (does control.BeginEval ∷ target_of (codes "k") ∷ does control.Turns ∷ [])))) ≡ value.Int (pos 0) ∷ []
unfolding run step start fresh_at content_place passed_places entered_places next_place read_path target landed cut printed is_true
in_this_turn = refl

-- never entered
never : stack_in (now (after 3 (asked_of 2 (codes "k") control.Turns))) ≡ value.Int (negsuc 0) ∷ []
unfolding run step start fresh_at content_place passed_places entered_places next_place read_path target landed cut printed is_true
never = refl

-- what is no container never was
turns_of_a_text : stack_in (now (after 3 (asked_of 2 (codes "k.0") control.Turns))) ≡ value.Int (negsuc 0) ∷ []
unfolding run step start fresh_at content_place passed_places entered_places next_place read_path target landed cut printed is_true
turns_of_a_text = refl

turns_not_noted : fault_of (after 3 (asked_of 1 (codes "k") control.Turns)) ≡ Some fault.NotCounted
unfolding run step start fresh_at content_place passed_places entered_places next_place read_path target landed cut printed is_true
turns_not_noted = refl

turns_of_a_number : fault_of (after 3 (with_knot 2 (does control.BeginEval ∷ leaf (leaves.Int (pos 1)) ∷ does control.Turns ∷ []) (says (codes "x") ∷ []))) ≡ Some fault.BadTarget
unfolding run step start fresh_at content_place passed_places entered_places next_place read_path target landed cut printed is_true
turns_of_a_number = refl

turns_of_nothing : fault_of (after 1 (with_knot 2 (does control.Turns ∷ []) (says (codes "x") ∷ []))) ≡ Some fault.StackEmpty
unfolding run step start fresh_at content_place passed_places entered_places next_place read_path target landed cut printed is_true
turns_of_nothing = refl

-- ---- the command

a_line : command_of (codes "visits k") ≡ Some (command.Visits (codes "k"))
unfolding command_of encode_utf8
a_line = rw (is_utf8-from_IsUtf8 (codes "visits k") (codes "visits k", (refl, refl))) refl

a_line_without_a_path : command_of (codes "visits ") ≡ None
unfolding command_of encode_utf8
a_line_without_a_path = rw (is_utf8-from_IsUtf8 (codes "visits ") (codes "visits ", (refl, refl))) refl

abbrev k_is_counted : StoryTree
k_is_counted = with_knot 1 (says (codes "x") ∷ []) (says (codes "x") ∷ [])

abbrev at_first : State
at_first = opened (start k_is_counted [])

never_visited : Visits k_is_counted (codes "k") at_first (Counts (pos 0)) at_first
unfolding start fresh_at read_path target
never_visited = (refl, refl)

-- what leads to nothing that is counted
no_such_path : Visits k_is_counted (codes "0") at_first (Refuses refusal.NoSuchPath) at_first
unfolding start fresh_at read_path target
no_such_path = (refl, refl)

a_relative_path : Visits k_is_counted (codes ".k") at_first (Refuses refusal.NoSuchPath) at_first
unfolding start fresh_at read_path target
a_relative_path = (refl, refl)

abbrev broken : State
broken = record { condition = Broken fault.Divide []; aside = one_flow; stamp = 0 }

-- a broken player comes before all paths
a_broken_visits : Visits k_is_counted (codes ".k") broken (Refuses (refusal.Broken fault.Divide)) broken
a_broken_visits = (refl, refl)
