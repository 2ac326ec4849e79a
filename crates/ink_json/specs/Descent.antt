-- What stands at a number in the list of a story's nodes.
use Rattle.std.specs.Prelude.{◌≡◌, ℕ, List, ◌++◌, drop, Bool, false, Option, Some, None}
use Rattle.std.specs.Ordering.{is_eq}
use Rattle.ink_model.specs.Story.Tree.{StoryTree}
use Rattle.ink_model.specs.declared.content.Content.{Content}
use Rattle.ink_model.specs.declared.content.Content.TheVariants as contents
use Rattle.ink_model.specs.declared.place.Part.{Part}
use Rattle.ink_json.specs.Listing.{nodes_of, rebuilt}
use Rattle.ink_json.specs.Order.{part_order}
use Rattle.ink_json.specs.Node.{Node}

-- the content whose node has this number
abbrev pub tree_at : List Node → ℕ → StoryTree
tree_at nodes n = rebuilt (drop n nodes)

-- from this number on come the nodes of a content, and of all that is in it
pub record Stands (nodes : List Node) (n : ℕ) : Type 0 where
  pub holder : ℕ
  pub last : Option Part
  pub after : List Node
  pub listed : drop n nodes ≡ nodes_of n holder last (tree_at nodes n) ++ after

-- how many nodes there are of content and all that is in it
abbrev pub size_of : Content → ℕ
size_of (contents.Leaf l) = 1
size_of (contents.Container c) = c.size

-- this part leads to content with such a last part
abbrev pub leads : Part → Option Part → Bool
leads p None = false
leads p (Some q) = is_eq (part_order p q)
