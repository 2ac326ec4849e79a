-- The numbers of a story's contents.
use Rattle.std.specs.Prelude.{◌≡◌, ◌<◌, List, [], length, slice_get, unwrap_or}
use Rattle.std.specs.Ordering.{nat_cmp}
use Rattle.ink_model.specs.Story.Places.{places}
use Rattle.ink_model.specs.Variables.Rows.{place_order}
use Rattle.ink_model.specs.Story.Tree.{StoryTree}
use Rattle.ink_model.specs.declared.place.Part.{Part}
use Rattle.ink_tree.specs.declared.spot.NodeId.{NodeId}

-- the place of a node, by its number in reading order; a number beyond the story's content stands for the root
abbrev pub node_place : StoryTree → NodeId → List Part
node_place s n = unwrap_or (slice_get (places s) n.number) []

-- a node of this story
abbrev pub IsNode : StoryTree → NodeId → Type 0
IsNode s n = n.number < length (places s)

-- contents stand to each other by their numbers as they do by their places
abbrev pub NumbersInOrder : StoryTree → Type 0
NumbersInOrder s = (m n : NodeId) → IsNode s m → IsNode s n → place_order (node_place s m) (node_place s n) ≡ nat_cmp m.number n.number
