-- Temporaries and pointers in small steps, each proved by computation (docs/VARIABLES.md).
use Rattle.std.specs.Prelude.{◌≡◌, pos, negsuc, List, [], ◌∷◌, refl, codes, true, false, Some}
use Rattle.ink_model.specs.Examples.CallStories.{after, after_with, asks_after, calls, does, fault_of, main_at, now, says, stack_in, story, threads_in, where_in}
use Rattle.ink_model.specs.Examples.CountStories.{diverts_by, globals_in, knot, target_of, temporaries_in, with_knot}
use Rattle.ink_model.specs.Examples.Variable.{a, one}
use Rattle.ink_model.specs.Memory.Asks.{asks}
use Rattle.ink_model.specs.Run.Configuration.{start, fresh_at}
use Rattle.ink_model.specs.Run.Entered.{entered_places, passed_places}
use Rattle.ink_model.specs.Run.Moments.{run}
use Rattle.ink_model.specs.Run.Place.{content_place, landed, next_place}
use Rattle.ink_model.specs.Run.Step.{step}
use Rattle.ink_model.specs.Story.Path.{read_path, target}
use Rattle.ink_model.specs.Story.Tree.{StoryTree, leaf}
use Rattle.ink_model.specs.Text.Mark.{cut}
use Rattle.ink_model.specs.Values.Operator.{apply}
use Rattle.ink_model.specs.Values.Value.{is_true, printed}
use Rattle.ink_model.specs.declared.content.Control.TheVariants as control
use Rattle.ink_model.specs.declared.content.Leaf.TheVariants as leaves
use Rattle.ink_model.specs.declared.fault.Fault.TheVariants as fault
use Rattle.ink_model.specs.declared.operator.Op.TheVariants as op
use Rattle.ink_model.specs.declared.value.Value.TheVariants as value

-- ---- temporaries

abbrev declares_a : List StoryTree → List StoryTree → StoryTree
declares_a = λ ts k. with_knot 0 (does control.BeginEval ∷ leaf (leaves.Int (pos 5)) ∷ leaf (leaves.DeclareTemp (codes "a")) ∷ ts) k

a_temporary : temporaries_in (now (after 3 (declares_a [] []))) ≡ one a (value.Int (pos 5))
unfolding run step start fresh_at content_place passed_places entered_places next_place read_path target landed cut printed is_true asks apply
a_temporary = refl

read_back : stack_in (now (after 4 (declares_a (leaf (leaves.Variable (codes "a")) ∷ []) []))) ≡ value.Int (pos 5) ∷ []
unfolding run step start fresh_at content_place passed_places entered_places next_place read_path target landed cut printed is_true asks apply
read_back = refl

-- a function does not see its caller's; at its end it gives void
not_in_a_call : stack_in (now (after 5 (declares_a (calls (codes "k") ∷ []) (leaf (leaves.Variable (codes "a")) ∷ [])))) ≡ value.Int (pos 0) ∷ value.Void ∷ []
unfolding run step start fresh_at content_place passed_places entered_places next_place read_path target landed cut printed is_true asks apply
not_in_a_call = refl

-- and leaves it as it is
after_a_call : temporaries_in (now (after 7 (declares_a (calls (codes "k") ∷ []) (does control.BeginEval ∷ leaf (leaves.Int (pos 6)) ∷ leaf (leaves.DeclareTemp (codes "a")) ∷ [])))) ≡ one a (value.Int (pos 5))
unfolding run step start fresh_at content_place passed_places entered_places next_place read_path target landed cut printed is_true asks apply
after_a_call = refl

-- assigning to what is absent
no_such_temporary : fault_of (after 3 (with_knot 0 (does control.BeginEval ∷ leaf (leaves.Int (pos 1)) ∷ leaf (leaves.AssignTemp (codes "t")) ∷ []) ([]))) ≡ Some fault.NoTemp
unfolding run step start fresh_at content_place passed_places entered_places next_place read_path target landed cut printed is_true asks apply
no_such_temporary = refl

-- `re` of a temporary assigns to a global of that name
a_global_first : globals_in (now (after 5 (with_knot 0 (does control.BeginEval ∷ leaf (leaves.Int (pos 1)) ∷ leaf (leaves.Declare (codes "a")) ∷ leaf (leaves.Int (pos 2)) ∷ leaf (leaves.AssignTemp (codes "a")) ∷ []) ([])))) ≡ one a (value.Int (pos 2))
unfolding run step start fresh_at content_place passed_places entered_places next_place read_path target landed cut printed is_true asks apply
a_global_first = refl

-- a global hides a temporary
hidden : stack_in (now (after 6 (with_knot 0 (does control.BeginEval ∷ leaf (leaves.Int (pos 1)) ∷ leaf (leaves.Declare (codes "a")) ∷ leaf (leaves.Int (pos 2)) ∷ leaf (leaves.DeclareTemp (codes "a")) ∷ leaf (leaves.Variable (codes "a")) ∷ []) ([])))) ≡ value.Int (pos 1) ∷ []
unfolding run step start fresh_at content_place passed_places entered_places next_place read_path target landed cut printed is_true asks apply
hidden = refl

-- a global that is declared again keeps its place
declared_again : globals_in (now (after 7 (with_knot 0 (does control.BeginEval ∷ leaf (leaves.Int (pos 1)) ∷ leaf (leaves.Declare (codes "a")) ∷ leaf (leaves.Int (pos 1)) ∷ leaf (leaves.Declare (codes "b")) ∷ leaf (leaves.Int (pos 2)) ∷ leaf (leaves.Declare (codes "a")) ∷ []) ([])))) ≡ (a, value.Int (pos 2)) ∷ (codes "b", value.Int (pos 1)) ∷ []
unfolding run step start fresh_at content_place passed_places entered_places next_place read_path target landed cut printed is_true asks apply
declared_again = refl

-- ---- pointers

-- outside evaluation mode a pointer does nothing
no_pointer : stack_in (now (after 1 (with_knot 0 (leaf (leaves.Pointer (codes "a") (negsuc 0)) ∷ []) ([])))) ≡ []
unfolding run step start fresh_at content_place passed_places entered_places next_place read_path target landed cut printed is_true asks apply
no_pointer = refl

-- where the frame has the name it leads there
to_the_frame : stack_in (now (after 4 (declares_a (leaf (leaves.Pointer (codes "a") (negsuc 0)) ∷ []) []))) ≡ value.Pointer (pos 1) a ∷ []
unfolding run step start fresh_at content_place passed_places entered_places next_place read_path target landed cut printed is_true asks apply
to_the_frame = refl

-- and else to the globals, whatever is declared later
to_the_globals : stack_in (now (after 4 (with_knot 0 (does control.BeginEval ∷ leaf (leaves.Pointer (codes "a") (negsuc 0)) ∷ leaf (leaves.Int (pos 5)) ∷ leaf (leaves.DeclareTemp (codes "a")) ∷ []) ([])))) ≡ value.Pointer (pos 0) a ∷ []
unfolding run step start fresh_at content_place passed_places entered_places next_place read_path target landed cut printed is_true asks apply
to_the_globals = refl

abbrev by_reference : StoryTree
by_reference = story (does control.BeginEval ∷ leaf (leaves.Int (pos 5)) ∷ leaf (leaves.DeclareTemp (codes "a")) ∷ leaf (leaves.Pointer (codes "a") (negsuc 0)) ∷ calls (codes "f") ∷ [])
    (leaf (leaves.DeclareTemp (codes "p")) ∷ does control.BeginEval ∷ leaf (leaves.Pointer (codes "p") (negsuc 0)) ∷ calls (codes "g") ∷ [])
    (leaf (leaves.DeclareTemp (codes "q")) ∷ does control.BeginEval ∷ leaf (leaves.Variable (codes "q")) ∷ leaf (leaves.Int (pos 1)) ∷ leaf (leaves.Op op.Add) ∷ leaf (leaves.AssignTemp (codes "q")) ∷ [])

-- a reference that is handed on leads to the variable itself
handed_on : temporaries_in (now (after 10 by_reference)) ≡ one (codes "q") (value.Pointer (pos 1) a)
unfolding run step start fresh_at content_place passed_places entered_places next_place read_path target landed cut printed is_true asks apply
handed_on = refl

-- and two calls deep that is assigned to
two_calls_deep : temporaries_in (now (after 15 by_reference)) ≡ one a (value.Int (pos 6))
unfolding run step start fresh_at content_place passed_places entered_places next_place read_path target landed cut printed is_true asks apply
two_calls_deep = refl

abbrev outlives : StoryTree
outlives = with_knot 0 (does control.BeginEval ∷ calls (codes "k") ∷ leaf (leaves.Declare (codes "p")) ∷ leaf (leaves.Variable (codes "p")) ∷ []) (does control.BeginEval ∷ leaf (leaves.Int (pos 1)) ∷ leaf (leaves.DeclareTemp (codes "t")) ∷ leaf (leaves.Pointer (codes "t") (negsuc 0)) ∷ does control.Return ∷ [])

-- a pointer to a frame that is gone is kept as it is
kept_as_it_is : globals_in (now (after 8 outlives)) ≡ one (codes "p") (value.Pointer (pos 2) (codes "t"))
unfolding run step start fresh_at content_place passed_places entered_places next_place read_path target landed cut printed is_true asks apply
kept_as_it_is = refl

-- and is bad when it is read
read_when_gone : fault_of (after 9 outlives) ≡ Some fault.BadPointer
unfolding run step start fresh_at content_place passed_places entered_places next_place read_path target landed cut printed is_true asks apply
read_when_gone = refl

-- a chain that goes round
round_and_round : fault_of (after 4 (with_knot 0 (does control.BeginEval ∷ leaf (leaves.Pointer (codes "a") (pos 0)) ∷ leaf (leaves.Declare (codes "a")) ∷ leaf (leaves.Variable (codes "a")) ∷ []) ([]))) ≡ Some fault.BadPointer
unfolding run step start fresh_at content_place passed_places entered_places next_place read_path target landed cut printed is_true asks apply
round_and_round = refl

-- ---- diverts

-- by a temporary, to the very place that its target names
by_a_temporary : where_in (threads_in (now (after 4 (with_knot 0 (does control.BeginEval ∷ target_of (codes "k") ∷ leaf (leaves.DeclareTemp (codes "v")) ∷ diverts_by (codes "v") ∷ []) (says (codes "x") ∷ []))))) ≡ main_at 3 ∷ Some knot ∷ []
unfolding run step start fresh_at content_place passed_places entered_places next_place read_path target landed cut printed is_true asks apply
by_a_temporary = refl

-- by a variable that nothing has
by_nothing : fault_of (after 1 (with_knot 0 (diverts_by (codes "v") ∷ []) (says (codes "x") ∷ []))) ≡ Some fault.BadTarget
unfolding run step start fresh_at content_place passed_places entered_places next_place read_path target landed cut printed is_true asks apply
by_nothing = refl

-- by a pointer that is bad
by_a_bad_pointer : fault_of (after_with 1 (one (codes "v") (value.Pointer (pos 3) a)) (with_knot 0 (diverts_by (codes "v") ∷ []) (says (codes "x") ∷ []))) ≡ Some fault.BadPointer
unfolding run step start fresh_at content_place passed_places entered_places next_place read_path target landed cut printed is_true asks apply
by_a_bad_pointer = refl

-- ---- where memory is asked for

-- a name that is new
a_new_name : asks_after 2 (declares_a [] []) ≡ true
unfolding run step start fresh_at content_place passed_places entered_places next_place read_path target landed cut printed is_true asks apply
a_new_name = refl

-- and none that is there
a_name_again : asks_after 4 (declares_a (leaf (leaves.Int (pos 6)) ∷ leaf (leaves.DeclareTemp (codes "a")) ∷ []) []) ≡ false
unfolding run step start fresh_at content_place passed_places entered_places next_place read_path target landed cut printed is_true asks apply
a_name_again = refl
