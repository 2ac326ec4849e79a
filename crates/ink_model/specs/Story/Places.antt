-- The places of a story's content, in reading order (docs/STORY_FORMAT.md, "Places").
use Rattle.std.specs.Prelude.{ℕ, ◌+◌, List, [], ◌∷◌, ◌++◌, map}
use Rattle.ink_model.specs.Story.Tree.{StoryTree, leaf, container, Trees, no_trees, tree, Keyed, no_keys, key}
use Rattle.ink_model.specs.declared.place.Part.{Part}
use Rattle.ink_model.specs.declared.place.Part.TheVariants.{Index, Name}

abbrev mutual
  -- of content and all that is in it, by places from it on: itself, then its elements by index, then the containers by key
  pub places : StoryTree → List (List Part)
  places (leaf l) = [] ∷ []
  places (container name flags content named) = [] ∷ (places_from 0 content ++ places_by_key named)

  -- of elements from this index on
  pub places_from : ℕ → Trees → List (List Part)
  places_from i no_trees = []
  places_from i (tree t ts) = map (λ p. Index i ∷ p) (places t) ++ places_from (i + 1) ts

  pub places_by_key : Keyed → List (List Part)
  places_by_key no_keys = []
  places_by_key (key k t ks) = map (λ p. Name k ∷ p) (places t) ++ places_by_key ks
