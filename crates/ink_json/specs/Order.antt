-- The order of places: reading order, where keys rise.
use Rattle.std.specs.Prelude.{ℕ, List, Bool, true, ◌&&◌}
use Rattle.std.specs.Cmp.Lexicographic.{slice_cmp}
use Rattle.std.specs.Ordering.{nat_cmp, is_lt}
pub use Rattle.ink_model.specs.Variables.Rows.{part_order, place_order}
use Rattle.ink_model.specs.Story.Tree.{StoryTree, leaf, container, Trees, no_trees, tree, Keyed, no_keys, key}
use Rattle.ink_model.specs.declared.place.Part.{Part}
use Rattle.ink_model.specs.declared.place.Part.TheVariants.{Index, Name}
use Rattle.ink_json.specs.declared.key.Key.{Key}

-- the part that a key is
abbrev pub key_part : Key → Part
key_part (Key.Index i) = Index i
key_part (Key.Name n) = Name n.now

-- a key comes before all of these
abbrev pub is_below : List ℕ → Keyed → Bool
is_below k no_keys = true
is_below k (key l t ks) = is_lt (slice_cmp nat_cmp k l) && is_below k ks

abbrev mutual
  -- in every container the keys rise by their bytes
  pub keys_rise : StoryTree → Bool
  keys_rise (leaf l) = true
  keys_rise (container name flags content named) = keys_rise_in content && keys_rise_by_key named

  pub keys_rise_in : Trees → Bool
  keys_rise_in no_trees = true
  keys_rise_in (tree t ts) = keys_rise t && keys_rise_in ts

  pub keys_rise_by_key : Keyed → Bool
  keys_rise_by_key no_keys = true
  keys_rise_by_key (key k t ks) = is_below k ks && (keys_rise t && keys_rise_by_key ks)
