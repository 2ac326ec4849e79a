-- Small worked examples of paths, targets and entered places, each proved by computation.
use Rattle.std.specs.Prelude.{◌≡◌, ℕ, List, [], ◌∷◌, refl, codes, true, false, Some, None}
use Rattle.ink_model.specs.Run.Entered.{entered_places}
use Rattle.ink_model.specs.Run.Place.{landed}
use Rattle.ink_model.specs.Story.Path.{read_path, target, landing}
use Rattle.ink_model.specs.Story.Tree.{StoryTree, leaf, container, no_trees, tree, no_keys, key}
use Rattle.ink_model.specs.declared.content.Leaf.TheVariants as leaves
use Rattle.ink_model.specs.declared.place.Part.{Part}
use Rattle.ink_model.specs.declared.place.Part.TheVariants.{Index, Name}
use Rattle.ink_model.specs.declared.place.Path.{Path}

abbrev path : List Part → Path
path ps = record { relative = false; parts = ps }

abbrev relative_path : List Part → Path
relative_path ps = record { relative = true; parts = ps }

abbrev up : Part
up = Name (codes "^")

-- ---- spelling

an_absolute_path : read_path (codes "k.0.a b") ≡ Some (path (Name (codes "k") ∷ Index 0 ∷ Name (codes "a b") ∷ []))
unfolding read_path
an_absolute_path = refl

a_relative_path : read_path (codes ".^.^.s0") ≡ Some (relative_path (up ∷ up ∷ Name (codes "s0") ∷ []))
unfolding read_path
a_relative_path = refl

zeros_in_front : read_path (codes "00") ≡ Some (path (Index 0 ∷ []))
unfolding read_path
zeros_in_front = refl

no_empty_component : read_path (codes "a..b") ≡ None
unfolding read_path
no_empty_component = refl

no_empty_path : read_path (codes ".") ≡ None
unfolding read_path
no_empty_path = refl

no_large_index : read_path (codes "2147483648") ≡ None
unfolding read_path
no_large_index = refl

-- ---- targets: [[x, [x, x, {"#n":"hello"}], null], x, {"k": [x, null]}]

abbrev x : StoryTree
x = leaf leaves.Newline

abbrev hello : StoryTree
hello = container (Some (codes "hello")) 0 (tree x (tree x no_trees)) no_keys

abbrev story : StoryTree
story = container None 0 (tree (container None 0 (tree x (tree hello no_trees)) no_keys) (tree x no_trees))
    (key (codes "k") (container None 1 (tree x no_trees) no_keys) no_keys)

by_a_name_in_the_list : target story (Index 0 ∷ Index 0 ∷ []) (relative_path (up ∷ Name (codes "hello") ∷ Index 1 ∷ [])) ≡ Some (Index 0 ∷ Index 1 ∷ Index 1 ∷ [])
unfolding target
by_a_name_in_the_list = refl

by_a_key : target story [] (path (Name (codes "k") ∷ [])) ≡ Some (Name (codes "k") ∷ [])
unfolding target
by_a_key = refl

to_an_end : target story [] (path (Index 2 ∷ [])) ≡ Some (Index 2 ∷ [])
unfolding target
to_an_end = refl

past_an_end : target story [] (path (Index 3 ∷ [])) ≡ None
unfolding target
past_an_end = refl

on_past_an_end : target story [] (path (Index 2 ∷ up ∷ [])) ≡ None
unfolding target
on_past_an_end = refl

above_the_root : target story (Index 1 ∷ []) (relative_path (up ∷ up ∷ [])) ≡ None
unfolding target
above_the_root = refl

no_way_up_first : target story (Index 1 ∷ []) (relative_path (Index 0 ∷ [])) ≡ None
unfolding target
no_way_up_first = refl

lands_on_content : landing story (path (Name (codes "k") ∷ [])) (Name (codes "k") ∷ []) ≡ Name (codes "k") ∷ Index 0 ∷ []
unfolding landed
lands_on_content = refl

lands_on_the_index : landing story (path (Index 0 ∷ [])) (Index 0 ∷ []) ≡ Index 0 ∷ []
lands_on_the_index = refl

-- ---- entered places: a knot that counts (1), in it a container that counts at its start only (5)

abbrev knot_story : StoryTree
knot_story = container None 0 no_trees
    (key (codes "k") (container None 1 (tree (container None 5 (tree x (tree x no_trees)) no_keys) (tree x no_trees)) no_keys) no_keys)

abbrev inner : List Part → List Part
inner ps = Name (codes "k") ∷ Index 0 ∷ ps

from_outside_at_the_start : entered_places knot_story None (inner (Index 0 ∷ [])) ≡ inner [] ∷ (Name (codes "k") ∷ []) ∷ [] ∷ []
unfolding entered_places
from_outside_at_the_start = refl

from_outside_in_the_middle : entered_places knot_story None (inner (Index 1 ∷ [])) ≡ (Name (codes "k") ∷ []) ∷ [] ∷ []
unfolding entered_places
from_outside_in_the_middle = refl

-- from inside, what has flag 4 is entered again at its start
from_inside : entered_places knot_story (Some (Name (codes "k") ∷ Index 1 ∷ [])) (inner (Index 0 ∷ [])) ≡ inner [] ∷ []
unfolding entered_places
from_inside = refl

-- ---- entered places: a knot with the flags of its two containers one inside the other

abbrev flagged : ℕ → ℕ → StoryTree
flagged outer inner_flags = container None 0 no_trees
    (key (codes "k") (container None outer (tree (container None inner_flags (tree x (tree x no_trees)) no_keys) (tree x no_trees)) no_keys) no_keys)

-- containers that note turns, or nothing at all, are entered like those that count; their flags say which of them count
that_note_turns : entered_places (flagged 2 0) None (inner (Index 1 ∷ [])) ≡ inner [] ∷ (Name (codes "k") ∷ []) ∷ [] ∷ []
unfolding entered_places
that_note_turns = refl

-- what counts at its start only is passed over in the middle, and what is around it is looked at still
start_only_around : entered_places (flagged 4 1) None (inner (Index 1 ∷ [])) ≡ inner [] ∷ [] ∷ []
unfolding entered_places
start_only_around = refl

-- from one content to the next of the same container nothing is entered
within_one_container : entered_places (flagged 1 1) (Some (inner (Index 0 ∷ []))) (inner (Index 1 ∷ [])) ≡ []
unfolding entered_places
within_one_container = refl

-- from the container itself nothing is entered in it
from_the_container : entered_places (flagged 1 1) (Some (inner [])) (inner (Index 0 ∷ [])) ≡ []
unfolding entered_places
from_the_container = refl

-- at a container's end nothing stands, and nothing is entered
at_an_end : entered_places (flagged 1 1) None (inner (Index 2 ∷ [])) ≡ []
unfolding entered_places
at_an_end = refl
