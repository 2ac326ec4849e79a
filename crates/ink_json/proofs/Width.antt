-- The containers of a story that bytes spell are narrow, since each content takes a byte.
use Rattle.std.proofs.Common.{◌≡◌, ℕ, ◌^◌, ◌≤◌, ◌<◌, List, Bool, true, false, nat_lt, Ok, refl, sym, ap, ◌∙◌, arith}
use Rattle.std.proofs.lemmas.Bool.{and_from, cond_both}
use Rattle.ink_json.proofs.Common.{nat_tests, Data, null, boolean, number, string, array, object, Items, no_items, item, Members, no_members, member, size, items_size, members_size, size_positive, StoryTree, count, is_own, tree_of, content_of, keyed_in, keyed_last, keyed_by, story, InkVersion}
use Rattle.ink_model.specs.Story.Narrow.{is_narrow, are_narrow, are_keyed_narrow}
use Rattle.ink_json.proofs.Root.{story_root, root_size}

-- ---- trees

below : (n : ℕ) → n < 2 ^ 32 → nat_lt n (2 ^ 32) ≡ true
below n h = grind (arith, nat_tests)

count_size : (version : InkVersion) (ds : Items) → count (content_of version ds) ≤ items_size ds
count_size version no_items = omega arith
count_size version (item d no_items) = omega arith
count_size version (item d (item e ds)) = omega (arith, size_positive d, count_size version (item e ds))

mutual
  tree_narrow : (version : InkVersion) (listed : Bool) (d : Data) → size d < 2 ^ 32 → is_narrow (tree_of version listed d) ≡ true
  tree_narrow version listed null h = refl
  tree_narrow version listed (boolean b) h = refl
  tree_narrow version listed (number n) h = refl
  tree_narrow version listed (string s) h = refl
  tree_narrow version listed (object ms) h = refl
  tree_narrow version listed (array ds) h =
      and_from _ _ (below (count (content_of version ds)) (omega (arith, count_size version ds)))
      (and_from (are_narrow (content_of version ds)) (are_keyed_narrow (keyed_in version ds)) (content_narrow version ds (omega arith)) (keyed_in_narrow version ds (omega arith)))

  content_narrow : (version : InkVersion) (ds : Items) → items_size ds < 2 ^ 32 → are_narrow (content_of version ds) ≡ true
  content_narrow version no_items h = refl
  content_narrow version (item d no_items) h = refl
  content_narrow version (item d (item e ds)) h = and_from _ _ (tree_narrow version true d (omega arith)) (content_narrow version (item e ds) (omega arith))

  keyed_in_narrow : (version : InkVersion) (ds : Items) → items_size ds < 2 ^ 32 → are_keyed_narrow (keyed_in version ds) ≡ true
  keyed_in_narrow version no_items h = refl
  keyed_in_narrow version (item d no_items) h = keyed_last_narrow version d (omega arith)
  keyed_in_narrow version (item d (item e ds)) h = keyed_in_narrow version (item e ds) (omega arith)

  keyed_last_narrow : (version : InkVersion) (d : Data) → size d < 2 ^ 32 → are_keyed_narrow (keyed_last version d) ≡ true
  keyed_last_narrow version null h = refl
  keyed_last_narrow version (boolean b) h = refl
  keyed_last_narrow version (number n) h = refl
  keyed_last_narrow version (string s) h = refl
  keyed_last_narrow version (array ds) h = refl
  keyed_last_narrow version (object ms) h = keyed_by_narrow version ms (omega arith)

  keyed_by_narrow : (version : InkVersion) (ms : Members) → members_size ms < 2 ^ 32 → are_keyed_narrow (keyed_by version ms) ≡ true
  keyed_by_narrow version no_members h = refl
  keyed_by_narrow version (member k d ms) h =
      let rest = keyed_by_narrow version ms (omega arith) in
      cond_both (is_own k) _ _ (λ ks. are_keyed_narrow ks ≡ true) (λ _. rest) (λ _. and_from _ _ (tree_narrow version false d (omega arith)) rest)

-- ---- the file

pub story_narrow : (bytes : List ℕ) (t : StoryTree) → story bytes ≡ Ok t → is_narrow t ≡ true
story_narrow bytes t e =
    let r = story_root bytes t e in
    ap is_narrow (sym r.is_tree) ∙ tree_narrow r.version false r.root (omega (arith, root_size t r))
