-- Tunnels and the faults of returns in small steps, each proved by computation (docs/FRAMES.md).
use Rattle.std.specs.Prelude.{◌≡◌, pos, [], ◌∷◌, refl, codes, false, Some, None}
use Rattle.ink_model.specs.Examples.CallStories.{does, says, calls, tunnels, story, after_with, after, now, fault_of, threads_in, line_of, where_in, main_at, in_f, through_f}
use Rattle.ink_model.specs.Run.Configuration.{fresh_at}
use Rattle.ink_model.specs.Run.Configuration.{start}
use Rattle.ink_model.specs.Run.Entered.{entered_places, passed_places}
use Rattle.ink_model.specs.Run.Moments.{run}
use Rattle.ink_model.specs.Run.Place.{content_place, landed, next_place}
use Rattle.ink_model.specs.Run.Step.{step}
use Rattle.ink_model.specs.Story.Path.{read_path, target}
use Rattle.ink_model.specs.Story.Tree.{StoryTree, leaf}
use Rattle.ink_model.specs.Text.Mark.{cut}
use Rattle.ink_model.specs.Values.Value.{is_true, printed}
use Rattle.ink_model.specs.declared.content.Control.TheVariants as control
use Rattle.ink_model.specs.declared.content.Destination.TheVariants as destination
use Rattle.ink_model.specs.declared.content.Leaf.TheVariants as leaves
use Rattle.ink_model.specs.declared.fault.Fault.TheVariants as fault
use Rattle.ink_model.specs.declared.place.Part.TheVariants.{Name}
use Rattle.ink_model.specs.declared.value.Value.TheVariants as value

-- ---- tunnels

-- after void flow goes on after the tunnel; it writes no mark
back_by_void : where_in (threads_in (now (after 5 (through_f (does control.BeginEval ∷ leaf leaves.Void ∷ does control.EndEval ∷ does control.ReturnTunnel ∷ []))))) ≡ main_at 0 ∷ main_at 1 ∷ []
unfolding run step start fresh_at content_place next_place read_path target landed cut printed is_true passed_places entered_places
back_by_void = refl

no_mark_of_a_tunnel : line_of (after 5 (through_f (does control.BeginEval ∷ leaf leaves.Void ∷ does control.EndEval ∷ does control.ReturnTunnel ∷ []))) ≡ []
unfolding run step start fresh_at content_place next_place read_path target landed cut printed is_true passed_places entered_places
no_mark_of_a_tunnel = refl

-- a target given to `->->` is the very place where flow lands, from the tunnel's call
back_to_a_target : where_in (threads_in (now (after 5 (through_f (does control.BeginEval ∷ leaf (leaves.Target (codes "g")) ∷ does control.EndEval ∷ does control.ReturnTunnel ∷ []))))) ≡ main_at 0 ∷ Some (Name (codes "g") ∷ []) ∷ []
unfolding run step start fresh_at content_place next_place read_path target landed cut printed is_true passed_places entered_places
back_to_a_target = refl

abbrev through_v : StoryTree
through_v = story (tunnels (destination.Variable (codes "v")) ∷ says (codes "y") ∷ []) (says (codes "x") ∷ []) ([])

-- a tunnel by a variable lands on the container itself
tunnel_by_a_variable : where_in (threads_in (now (after_with 1 ((codes "v", value.Target (record { relative = false; parts = Name (codes "f") ∷ [] })) ∷ []) through_v))) ≡ main_at 0 ∷ Some (Name (codes "f") ∷ []) ∷ main_at 0 ∷ []
unfolding run step start fresh_at content_place next_place read_path target landed cut printed is_true passed_places entered_places
tunnel_by_a_variable = refl

-- `->->` looks at what it pops
back_by_an_integer : fault_of (after 5 (through_f (does control.BeginEval ∷ leaf (leaves.Int (pos 1)) ∷ does control.EndEval ∷ does control.ReturnTunnel ∷ []))) ≡ Some fault.BadPop
unfolding run step start fresh_at content_place next_place read_path target landed cut printed is_true passed_places entered_places
back_by_an_integer = refl

back_by_nothing : fault_of (after 2 (through_f (does control.ReturnTunnel ∷ []))) ≡ Some fault.StackEmpty
unfolding run step start fresh_at content_place next_place read_path target landed cut printed is_true passed_places entered_places
back_by_nothing = refl

-- off its end a tunnel does not go back: the thread has come to its end, and here flow stops
off_the_end_of_a_tunnel : where_in (threads_in (now (after 2 (through_f (says (codes "x") ∷ []))))) ≡ in_f 0 ∷ None ∷ main_at 0 ∷ []
unfolding run step start fresh_at content_place next_place read_path target landed cut printed is_true passed_places entered_places
off_the_end_of_a_tunnel = refl

-- ---- faults of returns

-- no function to return from
return_from_the_base : fault_of (after 1 (story (does control.Return ∷ []) ([]) ([]))) ≡ Some fault.BadPop
unfolding run step start fresh_at content_place next_place read_path target landed cut printed is_true passed_places entered_places
return_from_the_base = refl

-- a tunnel is no function
return_from_a_tunnel : fault_of (after 2 (through_f (does control.Return ∷ []))) ≡ Some fault.BadPop
unfolding run step start fresh_at content_place next_place read_path target landed cut printed is_true passed_places entered_places
return_from_a_tunnel = refl

-- and a function no tunnel
tunnel_back_from_a_function : fault_of (after 5 (story (calls (codes "f") ∷ []) (does control.BeginEval ∷ leaf leaves.Void ∷ does control.EndEval ∷ does control.ReturnTunnel ∷ []) ([]))) ≡ Some fault.BadPop
unfolding run step start fresh_at content_place next_place read_path target landed cut printed is_true passed_places entered_places
tunnel_back_from_a_function = refl

-- a string that was opened in the function is still open
return_in_a_string : fault_of (after 4 (story (calls (codes "f") ∷ []) (does control.BeginEval ∷ does control.BeginString ∷ does control.Return ∷ []) ([]))) ≡ Some fault.BadMode
unfolding run step start fresh_at content_place next_place read_path target landed cut printed is_true passed_places entered_places
return_in_a_string = refl

off_the_end_in_a_string : fault_of (after 3 (story (calls (codes "f") ∷ []) (does control.BeginEval ∷ does control.BeginString ∷ []) ([]))) ≡ Some fault.BadMode
unfolding run step start fresh_at content_place next_place read_path target landed cut printed is_true passed_places entered_places
off_the_end_in_a_string = refl

-- the wrong frame comes before the open string
wrong_frame_first : fault_of (after 4 (through_f (does control.BeginEval ∷ does control.BeginString ∷ does control.Return ∷ []))) ≡ Some fault.BadPop
unfolding run step start fresh_at content_place next_place read_path target landed cut printed is_true passed_places entered_places
wrong_frame_first = refl
