-- Paths: their spelling, and where they lead (docs/STORY_FORMAT.md, "Paths").
use Rattle.std.specs.Prelude.{map, ℕ, ◌^◌, List, [], ◌∷◌, ◌++◌, reverse, Bool, true, false, not, ◌&&◌, bytes_eq, codes, ◌||◌, nat_eq, nat_lt, nat_le, is_some, if◌then◌else◌, Option, Some, None, option_and_then, decimal}
use Rattle.std.specs.List.{list_all}
use Rattle.std.specs.Option.{option_map}
use Rattle.ink_model.specs.Run.Place.{landed, named_index}
use Rattle.ink_model.specs.Story.Tree.{StoryTree, leaf, container, at, width}
use Rattle.ink_model.specs.Text.Bytes.{pieces, is_filled, is_digit, is_dot, number_from, joined}
use Rattle.ink_model.specs.declared.place.Part.{Part}
use Rattle.ink_model.specs.declared.place.Part.TheVariants.{Index, Name}
use Rattle.ink_model.specs.declared.place.Path.{Path}

-- ---- spelling

-- digits are an index, which is below 2 ^ 31; all else that is not empty is a name, `^` among them
abbrev pub component : List ℕ → Option Part
component cs = if not (is_filled cs) then None
    else (if list_all is_digit cs then (if nat_lt (number_from 0 cs) (2 ^ 31) then Some (Index (number_from 0 cs)) else None) else Some (Name cs))

abbrev pub components : List (List ℕ) → Option (List Part)
components [] = Some []
components (cs ∷ rest) = option_and_then (λ p. option_map (λ ps. p ∷ ps) (components rest)) (component cs)

abbrev pub path_with : Bool → List ℕ → Option Path
path_with relative cs = option_map (λ ps. record { relative = relative; parts = ps }) (components (pieces is_dot cs))

-- a dot in front makes a path relative; there is no empty component, and so no empty path
unfoldable pub read_path : List ℕ → Option Path
read_path [] = None
read_path (c ∷ cs) = if is_dot c then path_with true cs else path_with false (c ∷ cs)

-- ---- targets

abbrev pub is_up : List ℕ → Bool
is_up name = bytes_eq name (codes "^")

-- one part up, from the last part on; nothing is above the root
abbrev pub above : List Part → Option (List Part)
above [] = None
above (p ∷ up) = Some (reverse up)

-- the index of the container in a list that gives itself a name
abbrev pub listed_index : List ℕ → Option StoryTree → Option ℕ
listed_index name None = None
listed_index name (Some (leaf l)) = None
listed_index name (Some (container own flags content named)) = named_index name 0 content

-- by a name: to the container given by key, or to that in the list
abbrev pub by_name : StoryTree → List Part → List ℕ → Option (List Part)
by_name s p name = if is_some (at s (p ++ Name name ∷ [])) then Some (p ++ Name name ∷ [])
    else option_map (λ i. p ++ Index i ∷ []) (listed_index name (at s p))

-- one component further
abbrev pub stepped : StoryTree → List Part → Part → Option (List Part)
stepped s p (Index i) = if nat_lt i (width (at s p)) then Some (p ++ Index i ∷ []) else None
stepped s p (Name name) = if is_up name then above (reverse p) else by_name s p name

abbrev pub is_container : Option StoryTree → Bool
is_container None = false
is_container (Some (leaf l)) = false
is_container (Some (container own flags content named)) = true

-- the last component; an index there may lead to a container's end
abbrev pub stepped_last : StoryTree → List Part → Part → Option (List Part)
stepped_last s p (Index i) = if is_container (at s p) && nat_le i (width (at s p)) then Some (p ++ Index i ∷ []) else None
stepped_last s p (Name name) = stepped s p (Name name)

abbrev pub walked : StoryTree → List Part → List Part → Option (List Part)
walked s p [] = Some p
walked s p (c ∷ []) = stepped_last s p c
walked s p (c ∷ d ∷ cs) = option_and_then (λ q. walked s q (d ∷ cs)) (stepped s p c)

-- where a path leads from a place
unfoldable pub target : StoryTree → List Part → Path → Option (List Part)
target s from path = walked s (if path.relative then from else []) path.parts

-- where a host's path leads, which is not relative
abbrev pub absolute_target : StoryTree → Path → Option (List Part)
absolute_target s path = if path.relative then None else target s [] path

-- ---- landing

abbrev pub ends_in_index : List Part → Bool
ends_in_index [] = false
ends_in_index (Index i ∷ []) = true
ends_in_index (Name name ∷ []) = false
ends_in_index (c ∷ d ∷ cs) = ends_in_index (d ∷ cs)

-- A written path by an index lands there; by a name, on the container's first content. A target that was read from a
-- variable lands on the container itself, which is the target.
abbrev pub landing : StoryTree → Path → List Part → List Part
landing s path p = if ends_in_index path.parts then p else landed s p

-- ---- places of a story

-- a container's end, given from its last part
abbrev pub ends_at : StoryTree → List Part → Bool
ends_at s [] = false
ends_at s (Name n ∷ up) = false
ends_at s (Index i ∷ up) = is_container (at s (reverse up)) && nat_eq i (width (at s (reverse up)))

-- a place of the story: of content, or a container's end
unfoldable pub is_place : StoryTree → List Part → Bool
is_place s p = is_some (at s p) || ends_at s (reverse p)

-- ---- a path as it is written

-- a path as it is written: its components joined by dots, and a dot before a relative one
abbrev pub part_text : Part → List ℕ
part_text (Index i) = decimal i
part_text (Name n) = n

abbrev pub path_text : Path → List ℕ
path_text p = (if p.relative then 46 ∷ [] else []) ++ joined 46 (map part_text p.parts)

-- a place as it is printed: its parts joined by dots, or `root`
abbrev pub place_text : List Part → List ℕ
place_text [] = codes "root"
place_text (part ∷ parts) = joined 46 (map part_text (part ∷ parts))
