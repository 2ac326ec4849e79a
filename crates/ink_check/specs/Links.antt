-- What a written path is for, and what it comes to.
use Rattle.std.specs.Prelude.{◌≡◌, ℕ, ◌≤◌, List, ◌∷◌, All, length, map, slice_index_or, Bool, true, false, not, if◌then◌else◌, Option, Some, None, is_some}
use Rattle.std.specs.Option.{option_map}
use Rattle.ink_model.specs.Story.Acceptance.{is_counted, leads}
use Rattle.ink_model.specs.Story.Flags.{is_once_only}
use Rattle.ink_model.specs.Story.Path.{landing, read_path}
use Rattle.ink_model.specs.Story.Tree.{StoryTree, leaf, container}
use Rattle.ink_model.specs.declared.content.Destination.{Destination}
use Rattle.ink_model.specs.declared.content.Destination.TheVariants as destinations
use Rattle.ink_model.specs.declared.content.Leaf.{Leaf}
use Rattle.ink_model.specs.declared.content.Leaf.TheVariants as leaves
use Rattle.ink_model.specs.declared.place.Part.{Part}
use Rattle.ink_model.specs.declared.place.Path.{Path}
use Rattle.ink_tree.specs.Nodes.{node_place, place_of}
use Rattle.ink_tree.specs.declared.spot.NodeId.{NodeId}
use Rattle.ink_tree.specs.declared.spot.Spot.{Spot}
use Rattle.ink_check.specs.declared.link.Link.{Link}
use Rattle.ink_check.specs.declared.link.Link.TheVariants.{Nothing, Flows, Counts, Pushes, Variable}
use Rattle.ink_check.specs.declared.link.Purpose.{Purpose}
use Rattle.ink_check.specs.declared.link.Purpose.TheVariants.{Value, Count, Flow, OnceOnly}

-- ---- the path that a leaf has, and what it is for

abbrev pub destination : Destination → Option (List ℕ × Purpose)
destination (destinations.Path text) = Some (text, Flow)
destination (destinations.Variable name) = None

abbrev pub choice_purpose : ℕ → Purpose
choice_purpose flags = if is_once_only flags then OnceOnly else Flow

abbrev pub written : Leaf → Option (List ℕ × Purpose)
written (leaves.Target text) = Some (text, Value)
written (leaves.Count text) = Some (text, Count)
written (leaves.Divert to conditional) = destination to
written (leaves.Call to conditional) = destination to
written (leaves.Tunnel to conditional) = destination to
written (leaves.Choice text flags) = Some (text, choice_purpose flags)
written l = None

-- a value's path that leads somewhere is kept
abbrev pub is_kept : StoryTree → List Part → Option (List ℕ × Purpose) → Bool
is_kept s p None = false
is_kept s p (Some (text, Value)) = is_some (leads s p text)
is_kept s p (Some (text, u)) = false

-- content at a place, with a path that is kept
abbrev pub keeps_path : StoryTree → List Part → Option StoryTree → Bool
keeps_path s p None = false
keeps_path s p (Some (container name flags content named)) = false
keeps_path s p (Some (leaf l)) = is_kept s p (written l)

-- ---- a path that leads to a place

-- it is good for its purpose
abbrev pub is_good_for : StoryTree → Purpose → Path → List Part → Bool
is_good_for s Value path p = not path.relative
is_good_for s Count path p = is_counted s (Some p)
is_good_for s Flow path p = true
is_good_for s OnceOnly path p = is_counted s (Some p)

-- the landing, where flow goes there
abbrev pub target_for : StoryTree → Purpose → Path → List Part → List Part
target_for s Value path p = p
target_for s Count path p = p
target_for s Flow path p = landing s path p
target_for s OnceOnly path p = landing s path p

-- the container that is counted
abbrev pub counted_for : Purpose → List Part → Option (List Part)
counted_for Value p = None
counted_for Count p = Some p
counted_for Flow p = None
counted_for OnceOnly p = Some p

-- the path that is pushed
abbrev pub pushed_for : Purpose → Path → Option Path
pushed_for Value path = Some path
pushed_for u path = None

-- the path that content pushes
abbrev pub pushed_path : Option StoryTree → Option Path
pushed_path (Some (leaf (leaves.Target text))) = read_path text
pushed_path t = None

-- ---- links

abbrev pub target_of : Link → Option Spot
target_of Nothing = None
target_of (Flows target) = Some target
target_of (Counts target n) = Some target
target_of (Pushes target path) = Some target
target_of (Variable number) = None

abbrev pub counted_of : Link → Option NodeId
counted_of (Counts target n) = Some n
counted_of l = None

abbrev pub pushed_of : Link → Option Path
pushed_of (Pushes target path) = Some path
pushed_of l = None

-- the number of the variable
abbrev pub number_of : Link → Option ℕ
number_of (Variable number) = Some number
number_of l = None

abbrev pub target_place : StoryTree → Link → Option (List Part)
target_place s l = option_map (place_of s) (target_of l)

abbrev pub counted_place : StoryTree → Link → Option (List Part)
counted_place s l = option_map (node_place s) (counted_of l)

-- what a path comes to for its purpose; nothing where it is bad for it
abbrev pub IsLinkFor : StoryTree → Purpose → Path → List Part → Option Link → Type 0
IsLinkFor s u path p None = is_good_for s u path p ≡ false
IsLinkFor s u path p (Some l) = (is_good_for s u path p ≡ true) × (target_place s l ≡ Some (target_for s u path p)) × (counted_place s l ≡ counted_for u p) × (pushed_of l ≡ pushed_for u path) × (number_of l ≡ None)

-- a place with the container to which a path leads; nothing where its visits are not counted
abbrev pub IsCountOf : StoryTree → List Part → List Part → Option Link → Type 0
IsCountOf s p target None = is_counted s (Some p) ≡ false
IsCountOf s p target (Some l) = (is_counted s (Some p) ≡ true) × (target_place s l ≡ Some target) × (counted_place s l ≡ Some p) × (pushed_of l ≡ None) × (number_of l ≡ None)

-- ---- slots

-- the link that a slot stands for: nothing at 0, else the one whose index is one less
abbrev pub link_in : List Link → ℕ → Link
link_in links slot = slice_index_or (Nothing ∷ links) slot Nothing

-- the links that all slots stand for
abbrev pub spread : List Link → List ℕ → List Link
spread links slots = map (link_in links) slots

-- each slot is 0 or that of a link, and there are not more links than slots
abbrev pub AreSlots : List Link → List ℕ → Type 0
AreSlots links slots = All (λ slot. slot ≤ length links) slots × (length links ≤ length slots)
