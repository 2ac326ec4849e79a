-- Trees of lists, and what a content is by itself.
use Rattle.std.specs.Prelude.{ℕ, suc, List, [], ◌∷◌, length, Option, Some, None}
use Rattle.ink_model.specs.Story.Places.{places}
use Rattle.ink_model.specs.Story.Tree.{StoryTree, leaf, container, Trees, no_trees, tree, Keyed, no_keys, key, count}
use Rattle.ink_model.specs.declared.content.Content.{Content}
use Rattle.ink_model.specs.declared.content.Content.TheVariants as contents
use Rattle.ink_model.specs.declared.content.Leaf.{Leaf}

abbrev pub trees_of : List StoryTree → Trees
trees_of [] = no_trees
trees_of (t ∷ ts) = tree t (trees_of ts)

abbrev pub count_keys : Keyed → ℕ
count_keys no_keys = 0
count_keys (key k t ks) = suc (count_keys ks)

-- content that holds no other
abbrev pub leaf_in : Option StoryTree → Option Leaf
leaf_in None = None
leaf_in (Some (leaf l)) = Some l
leaf_in (Some (container name flags content named)) = None

-- content without what is in it
abbrev pub own_content : StoryTree → Content
own_content (leaf l) = contents.Leaf l
own_content (container name flags content named) = contents.Container (record {
  name = name;
  width = count content;
  keys = count_keys named;
  size = length (places (container name flags content named));
  flags = flags;
})
