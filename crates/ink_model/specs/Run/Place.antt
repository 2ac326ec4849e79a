-- Where flow starts, enters and goes on (docs/RUNNING.md, "Places").
use Rattle.std.specs.Prelude.{ℕ, ◌+◌, List, [], ◌∷◌, ◌++◌, reverse, Bool, false, bytes_eq, Option, Some, None, is_some, nat_lt, if◌then◌else◌}
use Rattle.std.specs.Option.{option_map}
use Rattle.ink_model.specs.Story.Tree.{StoryTree, leaf, container, Trees, no_trees, tree, by_key, at, width}
use Rattle.ink_model.specs.declared.place.Part.{Part}
use Rattle.ink_model.specs.declared.place.Part.TheVariants.{Index, Name}

-- the way from content down to its first content that holds no other by index
abbrev mutual
  pub first_content : StoryTree → List Part
  first_content (leaf l) = []
  first_content (container name flags content named) = first_content_of content

  pub first_content_of : Trees → List Part
  first_content_of no_trees = []
  first_content_of (tree t ts) = Index 0 ∷ first_content t

-- the same for what is found at a place; where nothing is, there is no way
abbrev pub first_content_at : Option StoryTree → List Part
first_content_at None = []
first_content_at (Some t) = first_content t

-- where a step at a place gets to before it performs
unfoldable pub content_place : StoryTree → List Part → List Part
content_place s p = p ++ first_content_at (at s p)

-- A story starts at the root's first content, or at the root itself where it is empty.
abbrev pub start_place : StoryTree → List Part
start_place s = if nat_lt 0 (width (Some s)) then Index 0 ∷ [] else []

-- The place after a place, given from its end: the next index of the container, or what follows the container while it
-- stands by index.
abbrev pub next_upwards : StoryTree → List Part → Option (List Part)
next_upwards s [] = None
next_upwards s (Name n ∷ up) = None
next_upwards s (Index i ∷ up) =
    if nat_lt (i + 1) (width (at s (reverse up))) then Some (reverse (Index (i + 1) ∷ up)) else next_upwards s up

unfoldable pub next_place : StoryTree → List Part → Option (List Part)
next_place s p = next_upwards s (reverse p)

-- ---- knots

-- landing on a container: at its first content, or on the container itself where it is empty
unfoldable pub landed : StoryTree → List Part → List Part
landed s p = if nat_lt 0 (width (at s p)) then p ++ Index 0 ∷ [] else p

abbrev pub is_named : List ℕ → Option (List ℕ) → Bool
is_named name None = false
is_named name (Some own) = bytes_eq name own

-- the index, from this one on, of the container that gives itself this name
abbrev pub named_index : List ℕ → ℕ → Trees → Option ℕ
named_index name i no_trees = None
named_index name i (tree (leaf l) ts) = named_index name (i + 1) ts
named_index name i (tree (container own flags content named) ts) = if is_named name own then Some i else named_index name (i + 1) ts

-- a knot: a container of the root by this name, given by key or in its list
unfoldable pub knot : List ℕ → StoryTree → Option (List Part)
knot name (leaf l) = None
knot name (container own flags content named) =
    if is_some (by_key name named) then Some (Name name ∷ []) else option_map (λ i. Index i ∷ []) (named_index name 0 content)
