-- The tree of a story: content by index, and containers by key (docs/STORY_FORMAT.md, "Containers").
use Rattle.std.specs.Prelude.{ℕ, zero, suc, List, [], ◌∷◌, Option, Some, None, option_and_then}
use Rattle.std.specs.Ordering.{nat_cmp, match_ordering}
use Rattle.std.specs.Cmp.Lexicographic.{slice_cmp}
use Rattle.ink_model.specs.declared.content.Leaf.{Leaf}
use Rattle.ink_model.specs.declared.place.Part.{Part}
use Rattle.ink_model.specs.declared.place.Part.TheVariants.{Index, Name}

-- A container has a name, where it stands in list position and has one, and flags.
mutual
  pub data StoryTree : Type 0 where
    leaf : Leaf → StoryTree
    container : Option (List ℕ) → ℕ → Trees → Keyed → StoryTree

  pub data Trees : Type 0 where
    no_trees : Trees
    tree : StoryTree → Trees → Trees

  pub data Keyed : Type 0 where
    no_keys : Keyed
    key : List ℕ → StoryTree → Keyed → Keyed

-- the content at an index
abbrev pub nth : ℕ → Trees → Option StoryTree
nth n no_trees = None
nth zero (tree t ts) = Some t
nth (suc n) (tree t ts) = nth n ts

-- the container at a key
abbrev pub by_key : List ℕ → Keyed → Option StoryTree
by_key k no_keys = None
by_key k (key l t ks) = match_ordering (slice_cmp nat_cmp k l) (by_key k ks) (Some t) (by_key k ks)

-- one part down
abbrev pub down : Part → StoryTree → Option StoryTree
down p (leaf l) = None
down (Index i) (container name flags content named) = nth i content
down (Name k) (container name flags content named) = by_key k named

-- what stands at a place
abbrev pub at : StoryTree → List Part → Option StoryTree
at t [] = Some t
at t (p ∷ ps) = option_and_then (λ u. at u ps) (down p t)

abbrev pub count : Trees → ℕ
count no_trees = 0
count (tree t ts) = suc (count ts)

-- how many contents stand by index in what is found at a place
abbrev pub width : Option StoryTree → ℕ
width None = 0
width (Some (leaf l)) = 0
width (Some (container name flags content named)) = count content
