-- How wide containers may be: an index is below 2 ^ 32.
use Rattle.std.specs.Prelude.{◌^◌, Bool, true, ◌&&◌, nat_lt}
use Rattle.ink_model.specs.Story.Tree.{StoryTree, leaf, container, Trees, no_trees, tree, Keyed, no_keys, key, count}

-- every container has fewer than 2 ^ 32 contents by index
abbrev mutual
  pub is_narrow : StoryTree → Bool
  is_narrow (leaf l) = true
  is_narrow (container name flags content named) = nat_lt (count content) (2 ^ 32) && (are_narrow content && are_keyed_narrow named)

  pub are_narrow : Trees → Bool
  are_narrow no_trees = true
  are_narrow (tree t ts) = is_narrow t && are_narrow ts

  pub are_keyed_narrow : Keyed → Bool
  are_keyed_narrow no_keys = true
  are_keyed_narrow (key k t ks) = is_narrow t && are_keyed_narrow ks
