-- A story that bytes spell has few places, since each takes a byte.
use Rattle.std.proofs.Common.{◌≡◌, ℕ, ◌+◌, ◌^◌, ◌≤◌, ◌<◌, List, ◌∷◌, ◌++◌, length, map, Bool, true, false, Ok, ap, arith}
use Rattle.std.proofs.lemmas.Bool.{cond_both}
use Rattle.ink_json.proofs.Common.{length-append, length-map, Data, null, boolean, number, string, array, object, Items, no_items, item, Members, no_members, member, size, items_size, members_size, StoryTree, Part, Index, Name, is_own, tree_of, content_of, keyed_in, keyed_last, keyed_by, story, InkVersion}
use Rattle.ink_model.specs.Story.Places.{places, places_from, places_by_key}
use Rattle.ink_json.proofs.Root.{story_root, root_size}

-- ---- trees

-- places found one part further down, and others
pub under_more : (p : Part) (ps qs : List (List Part)) → length (map (λ q. p ∷ q) ps ++ qs) ≡ length ps + length qs
under_more p ps qs = omega (arith, length-append (map (λ q. p ∷ q) ps) qs, length-map ps (λ q. p ∷ q))

mutual
  -- content has no more places than its value is made of values
  pub places_within : (version : InkVersion) (listed : Bool) (d : Data) → length (places (tree_of version listed d)) ≤ size d
  places_within version listed null = omega arith
  places_within version listed (boolean b) = omega arith
  places_within version listed (number n) = omega arith
  places_within version listed (string s) = omega arith
  places_within version listed (object ms) = omega arith
  places_within version listed (array ds) =
      omega (arith, length-append (places_from 0 (content_of version ds)) (places_by_key (keyed_in version ds)), inside_within version 0 ds)

  -- nor have the elements of a list, together with the containers by key in the last of them
  pub inside_within : (version : InkVersion) (i : ℕ) (ds : Items) → length (places_from i (content_of version ds)) + length (places_by_key (keyed_in version ds)) ≤ items_size ds
  inside_within version i no_items = omega arith
  inside_within version i (item d no_items) = omega (arith, keyed_last_within version d)
  inside_within version i (item d (item e ds)) =
      omega (arith, under_more (Index i) (places (tree_of version true d)) (places_from (i + 1) (content_of version (item e ds))), places_within version true d, inside_within version (i + 1) (item e ds))

  pub keyed_last_within : (version : InkVersion) (d : Data) → length (places_by_key (keyed_last version d)) ≤ size d
  keyed_last_within version null = omega arith
  keyed_last_within version (boolean b) = omega arith
  keyed_last_within version (number n) = omega arith
  keyed_last_within version (string s) = omega arith
  keyed_last_within version (array ds) = omega arith
  keyed_last_within version (object ms) = omega (arith, keyed_by_within version ms)

  pub keyed_by_within : (version : InkVersion) (ms : Members) → length (places_by_key (keyed_by version ms)) ≤ members_size ms
  keyed_by_within version no_members = omega arith
  keyed_by_within version (member k d ms) =
      let rest = keyed_by_within version ms in
      cond_both (is_own k) _ _ (λ ks. length (places_by_key ks) ≤ members_size (member k d ms)) (λ _. omega (arith, rest))
      (λ _. omega (arith, under_more (Name k) (places (tree_of version false d)) (places_by_key (keyed_by version ms)), places_within version false d, rest))

-- ---- the file

pub story_few : (bytes : List ℕ) (t : StoryTree) → story bytes ≡ Ok t → length (places t) < 2 ^ 32
story_few bytes t e =
    let r = story_root bytes t e in
    omega (arith, ap (λ u. length (places u)) r.is_tree, places_within r.version false r.root, root_size t r)
