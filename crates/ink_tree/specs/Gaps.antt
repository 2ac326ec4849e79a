-- Which numbers the content at a place may have.
use Rattle.std.specs.Prelude.{◌≡◌, ⊤, ℕ, ◌<◌, ◌≤◌, List, [], ◌∷◌, ◌++◌, length, Option, Some, None}
use Rattle.ink_json.specs.Order.{key_part}
use Rattle.ink_json.specs.declared.key.Key.{Key}
use Rattle.ink_model.specs.Story.Places.{places}
use Rattle.ink_model.specs.Story.Tree.{StoryTree}
use Rattle.ink_model.specs.declared.place.Part.{Part}
use Rattle.ink_tree.specs.Numbers.{node_place, IsNode}
use Rattle.ink_tree.specs.declared.spot.NodeId.{NodeId}

-- the part that leads from a place to the content of a number; none, where it does not stand one part down from there
abbrev pub LeadsTo : StoryTree → List Part → ℕ → Option Key → Type 0
LeadsTo s p i None = (x : Part) → i < length (places s) → node_place s (record { number = i }) ≡ p ++ x ∷ [] → ⊥
LeadsTo s p i (Some k) = (i < length (places s)) × (node_place s (record { number = i }) ≡ p ++ key_part k ∷ [])

-- content at a place has no number before this one
abbrev pub NoneBefore : StoryTree → List Part → ℕ → Type 0
NoneBefore s p i = (n : NodeId) → IsNode s n → node_place s n ≡ p → i ≤ n.number

-- the same, where there is a number
abbrev pub MayBeNoneBefore : StoryTree → List Part → Option ℕ → Type 0
MayBeNoneBefore s p None = ⊤
MayBeNoneBefore s p (Some i) = NoneBefore s p i

-- content at a place has no number from this one on
abbrev pub NoneFrom : StoryTree → List Part → ℕ → Type 0
NoneFrom s p i = (n : NodeId) → IsNode s n → node_place s n ≡ p → n.number < i
