-- Stories with two knots, and what is looked at after some steps of them.
use Rattle.std.specs.Prelude.{ℕ, List, [], ◌∷◌, codes, Bool, false, map, Option, Some, None}
use Rattle.ink_model.specs.Flow.Frames.{ThreadsOf}
use Rattle.ink_model.specs.Host.Bindings.{Bound}
use Rattle.ink_model.specs.Memory.Asks.{asks}
use Rattle.ink_model.specs.Run.Configuration.{Configuration, start}
use Rattle.ink_model.specs.Run.Moments.{Moment, At, Stopped, Faulted, Waits, moment}
use Rattle.ink_model.specs.Run.Step.{nothing_bound}
use Rattle.ink_model.specs.Story.Tree.{StoryTree, leaf, container, no_keys, key}
use Rattle.ink_model.specs.Story.View.{trees_of}
use Rattle.ink_model.specs.Variables.Store.{Values}
use Rattle.ink_model.specs.declared.content.Control.{Control}
use Rattle.ink_model.specs.declared.content.Control.TheVariants as control
use Rattle.ink_model.specs.declared.content.Destination.{Destination}
use Rattle.ink_model.specs.declared.content.Destination.TheVariants as destination
use Rattle.ink_model.specs.declared.content.Leaf.TheVariants as leaves
use Rattle.ink_model.specs.declared.fault.Fault.{Fault}
use Rattle.ink_model.specs.declared.mark.Mark.{Mark}
use Rattle.ink_model.specs.declared.place.Part.{Part}
use Rattle.ink_model.specs.declared.place.Part.TheVariants.{Index, Name}
use Rattle.ink_model.specs.declared.value.Value.{Value}

-- ---- stories: a first container and then `done`, with the knots `f` and `g`

abbrev pub does : Control → StoryTree
does c = leaf (leaves.Control c)

abbrev pub says : List ℕ → StoryTree
says t = leaf (leaves.Text t)

abbrev pub calls : List ℕ → StoryTree
calls path = leaf (leaves.Call (destination.Path path) false)

abbrev pub tunnels : Destination → StoryTree
tunnels to = leaf (leaves.Tunnel to false)

abbrev pub list : List StoryTree → StoryTree
list ts = container None 0 (trees_of ts) no_keys

abbrev pub story : List StoryTree → List StoryTree → List StoryTree → StoryTree
story main f g = container None 0 (trees_of (list main ∷ does control.Done ∷ [])) (key (codes "f") (list f) (key (codes "g") (list g) no_keys))

abbrev pub after_with : ℕ → Values → StoryTree → Moment
after_with n globals s = moment s nothing_bound (start s globals) [] n

abbrev pub after : ℕ → StoryTree → Moment
after n s = after_with n [] s

-- ---- what is looked at after some steps

abbrev pub now : Moment → Option Configuration
now (At c left made) = Some c
now (Stopped c left made) = Some c
now (Faulted f c left made) = None
now (Waits name made) = None

abbrev pub fault_of : Moment → Option Fault
fault_of (Faulted f c left made) = Some f
fault_of m = None

abbrev pub line_in : Option Configuration → List Mark
line_in None = []
line_in (Some c) = c.page.line

abbrev pub stack_in : Option Configuration → List Value
stack_in None = []
stack_in (Some c) = c.flow.stack

abbrev pub threads_in : Option Configuration → Option (ThreadsOf (List Part))
threads_in None = None
threads_in (Some c) = Some c.flow.threads

abbrev pub line_of : Moment → List Mark
line_of m = line_in (now m)

-- the places of the top thread's frames, from the top, and its previous place
abbrev pub where_in : Option (ThreadsOf (List Part)) → List (Option (List Part))
where_in None = []
where_in (Some ts) = ts.thread.previous ∷ map (λ f. f.place) (ts.thread.frame ∷ ts.thread.below)

abbrev pub main_at : ℕ → Option (List Part)
main_at i = Some (Index 0 ∷ Index i ∷ [])

abbrev pub in_f : ℕ → Option (List Part)
in_f i = Some (Name (codes "f") ∷ Index i ∷ [])

-- the modes of the top thread's frames
abbrev pub modes_in : Option (ThreadsOf (List Part)) → List Bool
modes_in None = []
modes_in (Some ts) = map (λ f. f.evaluating) (ts.thread.frame ∷ ts.thread.below)

-- where each thread is
abbrev pub all_places : Option (ThreadsOf (List Part)) → List (Option (List Part))
all_places None = []
all_places (Some ts) = map (λ t. t.frame.place) (ts.thread ∷ ts.below)

abbrev pub safe_in : Option Configuration → Bool
safe_in None = false
safe_in (Some c) = c.flow.safe

-- the step that comes next asks for memory
abbrev pub asks_in : StoryTree → Bound → Option Configuration → Bool
asks_in s b None = false
asks_in s b (Some c) = asks s b c

abbrev pub asks_after : ℕ → StoryTree → Bool
asks_after n s = asks_in s nothing_bound (now (after n s))

abbrev pub through_f : List StoryTree → StoryTree
through_f = λ f. story (tunnels (destination.Path (codes "f")) ∷ says (codes "y") ∷ []) f (says (codes "z") ∷ [])
