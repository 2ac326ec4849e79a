-- What nodes and spots of a story stand for.
use Rattle.std.specs.Prelude.{◌≡◌, ⊤, ℕ, List, [], ◌∷◌, ◌++◌, Option, Some, None}
use Rattle.ink_json.specs.Order.{key_part}
use Rattle.ink_json.specs.Story.{tree}
use Rattle.ink_json.specs.declared.key.Key.{Key}
use Rattle.ink_model.specs.Story.Tree.{StoryTree, at}
use Rattle.ink_model.specs.declared.place.Part.{Part}
use Rattle.ink_model.specs.declared.place.Part.TheVariants.{Index}
pub use Rattle.ink_tree.specs.Numbers.{node_place, IsNode, NumbersInOrder}
use Rattle.ink_tree.specs.declared.spot.NodeId.{NodeId}
use Rattle.ink_tree.specs.declared.spot.Spot.{Spot}
use Rattle.ink_tree.specs.declared.tree.Tree.{Tree}

-- the tree of a story
abbrev pub story_tree : Tree → StoryTree
story_tree t = tree t.raw

abbrev pub index_part : Option ℕ → List Part
index_part None = []
index_part (Some i) = Index i ∷ []

-- the place of a spot
abbrev pub place_of : StoryTree → Spot → List Part
place_of s x = node_place s x.holder ++ index_part x.index

-- the node of the content at a place, none where nothing stands there
abbrev pub Finds : StoryTree → List Part → Option NodeId → Type 0
Finds s p None = at s p ≡ None
Finds s p (Some n) = IsNode s n × (node_place s n ≡ p)

abbrev pub AreNodes : StoryTree → List NodeId → Type 0
AreNodes s [] = ⊤
AreNodes s (n ∷ ns) = IsNode s n × AreNodes s ns

-- a node of this story, where there is one
abbrev pub MayBeNode : StoryTree → Option NodeId → Type 0
MayBeNode s None = ⊤
MayBeNode s (Some n) = IsNode s n

-- what is around the content at a place, and the part that leads from there to it
abbrev pub IsAbove : StoryTree → List Part → Option (Key × NodeId) → Type 0
IsAbove s p None = p ≡ []
IsAbove s p (Some x) = IsNode s x.1 × (p ≡ node_place s x.1 ++ key_part x.0 ∷ [])
