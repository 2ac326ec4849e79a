-- An accepted story has what is asked of it.
use Rattle.std.proofs.Common.{◌≡◌, ◌∙◌, ap, sym, refl, subst, arith, ℕ, zero, suc, ◌+◌, List, [], ◌∷◌, ◌++◌, map, filter, length, Bool, true, false, true≢false, not, ◌&&◌, codes, nat_lt, Option, Some, None, is_some, option_and_then, unwrap_or, Result, Ok, Err, inl, inr}
use Rattle.std.proofs.lemmas.Bool.{and_parts, cases_Bool, cond_both, not-true, true_from_ne_false}
use mathlib.Core.Bool.{Bool-set}
use mathlib.Core.HLevel.{Unit-prop, ×_prop}
use mathlib.Core.Logic.{∥∥₁_elim}
use Rattle.std.specs.FinMap.{nat_cmp-IsAntisymmetric, slice_cmp-IsAntisymmetric}
use Rattle.std.specs.Ordering.{nat_cmp}
use Rattle.std.specs.Result.{result_unwrap_or}
use Rattle.serde_json.specs.Data.{Data, array, object, Items, no_items, item, Members, no_members, member}
use Rattle.serde_json.specs.Find.{as_array, get}
use Rattle.ink_model.specs.Story.Acceptance.{accepted, accepted_story, and_then, bad_path, bad_places, good_content, good_leaf, has_bad_path, is_absolute, leads}
use Rattle.ink_model.specs.Story.Grammar.{IsSpelled, content, content_of, faults, first, is_blank_object, is_empty, is_object, is_own, json, keyed_by, keyed_in, keyed_last, of_json, of_version, root_of, story, tree_of, unmarked, version_of}
use Rattle.ink_model.specs.Story.Leaves.{leaf_of}
use Rattle.ink_model.specs.Story.Path.{read_path, target}
use Rattle.ink_model.specs.Story.Places.{places, places_by_key, places_from}
use Rattle.ink_model.specs.Run.Step.Diverts.{path_of}
use Rattle.ink_model.specs.Story.Tree.{StoryTree, leaf, container, Trees, no_trees, tree, Keyed, no_keys, key, at, by_key, down, nth}
use Rattle.ink_sound.proofs.Common.{Leaf, Part, Index, Name, Path, slice_cmp, Each, Cause, InkVersion}
use Rattle.ink_model.specs.declared.content.Leaf.TheVariants as leaves
use Rattle.ink_model.specs.declared.fault.ReadRefusal.{ReadRefusal}
use Rattle.ink_model.specs.declared.limits.TheConstants.{MAX_STORY}
use Rattle.ink_json.proofs.Narrow.{width_at}
use Rattle.ink_json.proofs.Width.{story_narrow}
use Rattle.ink_model.specs.Story.Narrow.{is_narrow}
use Rattle.ink_sound.specs.Kept.{Finds, KeyedFit, LeafFits, StoryFits, TextsFit, TreeFits, TreesFit, Yields}
use Rattle.ink_model.specs.Save.Sound.{PathFits}
use Rattle.ink_path.proofs.Back.{reads_back}
use Rattle.ink_sound.proofs.Leaves.{leaf_of_fits}
use Rattle.ink_sound.proofs.Rows.{in_order}
use Rattle.ink_sound.proofs.Values.{on_finds}

-- ---- texts of a tree

leaf_or : (r : Result Leaf Cause) → Yields TextsFit r → TextsFit (result_unwrap_or r leaves.Newline)
leaf_or (Ok l) h = h
leaf_or (Err c) h = tt

mutual
  tree_fits : (version : InkVersion) (listed : Bool) (d : Data) → TreeFits (tree_of version listed d)
  tree_fits version listed (array ds) = (content_fits version ds, keyed_fit version ds)
  tree_fits version listed d = leaf_or (leaf_of version d) (leaf_of_fits version d)

  content_fits : (version : InkVersion) (ds : Items) → TreesFit (content_of version ds)
  content_fits version no_items = tt
  content_fits version (item d ds) = cond_both (is_empty ds) _ _ TreesFit (λ _. tt) (λ _. (tree_fits version true d, content_fits version ds))

  keyed_fit : (version : InkVersion) (ds : Items) → KeyedFit (keyed_in version ds)
  keyed_fit version no_items = tt
  keyed_fit version (item d ds) = cond_both (is_empty ds) _ _ KeyedFit (λ _. last_fits version d) (λ _. keyed_fit version ds)

  last_fits : (version : InkVersion) (d : Data) → KeyedFit (keyed_last version d)
  last_fits version (object ms) = by_fits version ms
  last_fits version d = tt

  by_fits : (version : InkVersion) (ms : Members) → KeyedFit (keyed_by version ms)
  by_fits version no_members = tt
  by_fits version (member k d ms) = cond_both (is_own k) _ _ KeyedFit (λ _. by_fits version ms) (λ _. (tree_fits version false d, by_fits version ms))

-- ---- what stands in a tree that fits

nth_fits : (i : ℕ) (ts : Trees) → TreesFit ts → Finds TreeFits (nth i ts)
nth_fits zero (tree t ts) h = h.0
nth_fits (suc i) (tree t ts) h = nth_fits i ts h.1
nth_fits i ts h = tt

key_fits : (k : List ℕ) (ks : Keyed) → KeyedFit ks → Finds TreeFits (by_key k ks)
key_fits k no_keys h = tt
key_fits k (key l t ks) h = in_order (Finds TreeFits) (slice_cmp nat_cmp k l) _ _ _ (λ _. key_fits k ks h.1) (λ _. h.0) (λ _. key_fits k ks h.1)

down_fits : (p : Part) (t : StoryTree) → TreeFits t → Finds TreeFits (down p t)
down_fits (Index i) (container name flags content named) h = nth_fits i content h.0
down_fits (Name k) (container name flags content named) h = key_fits k named h.1
down_fits p t h = tt

at_fits : (p : List Part) (t : StoryTree) → TreeFits t → Finds TreeFits (at t p)
at_fits [] t h = h
at_fits (x ∷ p) t h = on_finds TreeFits TreeFits (down x t) (λ u. at u p) (down_fits x t h) (λ u k. at_fits p u k)

-- ---- the file

first_fits : (rs : List ReadRefusal) (t : StoryTree) → TreeFits t → Yields TreeFits (first rs t)
first_fits [] t h = h
first_fits (r ∷ rs) t h = tt

root_fits : (version : InkVersion) (o : Option Data) → Yields TreeFits (root_of version o)
root_fits version None = tt
root_fits version (Some d) = cond_both (is_some (as_array d)) _ _ (Yields TreeFits) (λ _. first_fits (faults version 1 false d) (tree_of version false d) (tree_fits version false d)) (λ _. tt)

of_version_fits : (o : Option InkVersion) (d : Data) → Yields TreeFits (of_version o d)
of_version_fits None d = tt
of_version_fits (Some version) d = cond_both (not (is_blank_object (get (codes "listDefs") d))) _ _ (Yields TreeFits) (λ _. tt) (λ _. root_fits version (get (codes "root") d))

json_fits : (o : Option Data) → Yields TreeFits (of_json o)
json_fits None = tt
json_fits (Some d) = cond_both (not (is_object d)) _ _ (Yields TreeFits) (λ _. tt) (λ _. of_version_fits (version_of d) d)

story_fits : (bytes : List ℕ) → Yields TreeFits (story bytes)
unfolding story
story_fits bytes = cond_both (nat_lt MAX_STORY (length bytes)) _ _ (Yields TreeFits) (λ _. tt) (λ _. json_fits (json (unmarked bytes)))

-- ---- each place

module _ {X : Type 0} where
  left_of : (P : X → Type 0) (xs ys : List X) → Each P (xs ++ ys) → Each P xs
  left_of P [] ys h = tt
  left_of P (x ∷ xs) ys h = (h.0, left_of P xs ys h.1)

  right_of : (P : X → Type 0) (xs ys : List X) → Each P (xs ++ ys) → Each P ys
  right_of P [] ys h = h
  right_of P (x ∷ xs) ys h = right_of P xs ys h.1

  under : {Y : Type 0} (P : Y → Type 0) (f : X → Y) (xs : List X) → Each P (map f xs) → Each (λ x. P (f x)) xs
  under P f [] h = tt
  under P f (x ∷ xs) h = (h.0, under P f xs h.1)

nth_each : (P : List Part → Type 0) (i k : ℕ) (ts : Trees) (u : StoryTree) → Each P (places_from k ts) → nth i ts ≡ Some u → Each (λ q. P (Index (k + i) ∷ q)) (places u)
nth_each P i k no_trees u h e = absurd cc
nth_each P zero k (tree t ts) u h e =
    let same : t ≡ u = cc in
    let begun : Each (λ q. P (Index k ∷ q)) (places t) = under P (λ q. Index k ∷ q) (places t) (left_of P (map (λ q. Index k ∷ q) (places t)) (places_from (k + 1) ts) h) in
    subst (λ n. Each (λ q. P (Index n ∷ q)) (places u)) (omega arith) (subst (λ v. Each (λ q. P (Index k ∷ q)) (places v)) same begun)
nth_each P (suc i) k (tree t ts) u h e =
    subst (λ n. Each (λ q. P (Index n ∷ q)) (places u)) (omega arith) (nth_each P i (k + 1) ts u (right_of P (map (λ q. Index k ∷ q) (places t)) (places_from (k + 1) ts) h) e)

key_each : (P : List Part → Type 0) (k : List ℕ) (ks : Keyed) (u : StoryTree) → Each P (places_by_key ks) → by_key k ks ≡ Some u → Each (λ q. P (Name k ∷ q)) (places u)
key_each P k no_keys u h e = absurd cc
key_each P k (key l t ks) u h e =
    let further = λ (f : by_key k ks ≡ Some u). key_each P k ks u (right_of P (map (λ q. Name l ∷ q) (places t)) (places_by_key ks) h) f in
    in_order (λ o. o ≡ Some u → Each (λ q. P (Name k ∷ q)) (places u)) (slice_cmp nat_cmp k l) _ _ _ (λ is f. further f)
    (λ is f.
    let same : t ≡ u = cc in
    let named : l ≡ k = sym (slice_cmp-IsAntisymmetric nat_cmp-IsAntisymmetric k l is) in
    let begun : Each (λ q. P (Name l ∷ q)) (places t) = under P (λ q. Name l ∷ q) (places t) (left_of P (map (λ q. Name l ∷ q) (places t)) (places_by_key ks) h) in
    subst (λ n. Each (λ q. P (Name n ∷ q)) (places u)) named (subst (λ v. Each (λ q. P (Name l ∷ q)) (places v)) same begun))
    (λ is f. further f) e

-- what holds of each listed place holds of each place where content stands
stands_each : (p : List Part) (P : List Part → Type 0) (t : StoryTree) → Each P (places t) → is_some (at t p) ≡ true → P p
stands_each [] P (leaf l) h e = h.0
stands_each [] P (container name flags content named) h e = h.0
stands_each (x ∷ p) P (leaf l) h e = absurd (true≢false (sym e))
stands_each (Index i ∷ p) P (container name flags content named) h e =
    (elim (nth i content) as (λ o. nth i content ≡ o → is_some (option_and_then (λ u. at u p) o) ≡ true → P (Index i ∷ p)) [
      | None ↦ λ is f. absurd (true≢false (sym f))
      | Some u ↦ λ is f. stands_each p (λ q. P (Index i ∷ q)) u
          (subst (λ n. Each (λ q. P (Index n ∷ q)) (places u)) (omega arith) (nth_each P i 0 content u (left_of P (places_from 0 content) (places_by_key named) h.1) is)) f
    ]) refl e
stands_each (Name k ∷ p) P (container name flags content named) h e =
    (elim (by_key k named) as (λ o. by_key k named ≡ o → is_some (option_and_then (λ u. at u p) o) ≡ true → P (Name k ∷ p)) [
      | None ↦ λ is f. absurd (true≢false (sym f))
      | Some u ↦ λ is f. stands_each p (λ q. P (Name k ∷ q)) u (key_each P k named u (right_of P (places_from 0 content) (places_by_key named) h.1) is) f
    ]) refl e

-- ---- acceptance

none_passes : {X : Type 0} (test : X → Bool) (xs : List X) → filter test xs ≡ [] → Each (λ x. test x ≡ false) xs
none_passes test [] e = tt
none_passes test (x ∷ xs) e = elim (cases_Bool (test x)) [
  | inl is ↦ (let some : x ∷ filter test xs ≡ [] = rw is at e in absurd cc)
  | inr is ↦ (is, none_passes test xs (rw is at e))
]

same_target : (s : StoryTree) (p : List Part) (path : Path) → path.relative ≡ false → target s p path ≡ target s [] path
unfolding target
same_target s p path e = rw e refl

-- a target that is good is one that a value may hold
path_fits : (s : StoryTree) (p : List Part) (text : List ℕ) → (is_absolute (read_path text) && is_some (leads s p text)) ≡ true → PathFits s (path_of text)
path_fits s p text h = (elim (read_path text) as (λ o. read_path text ≡ o → (is_absolute o && is_some (option_and_then (target s p) o)) ≡ true → PathFits s (unwrap_or o (record { relative = false; parts = [] }))) [
  | None ↦ λ is k. absurd cc
  | Some path ↦ λ is k.
      let parts = and_parts (not path.relative) (is_some (target s p path)) k in
      let absolute = not-true path.relative parts.0 in
      record { absolute = absolute; leads = ap is_some (sym (same_target s p path absolute)) ∙ parts.1; spelled = reads_back path text is }
]) refl h

leaf_good : (s : StoryTree) (p : List Part) (l : Leaf) → TextsFit l → good_leaf s p l ≡ true → LeafFits s l
leaf_good s p (leaves.Target text) h g = path_fits s p text g
leaf_good s p l h g = h

-- a story whose texts fit and whose paths are all good
good_fits : (s : StoryTree) → TreeFits s → is_narrow s ≡ true → bad_places s ≡ [] → StoryFits s
unfolding bad_places
good_fits s h narrow none = record { leaf_fits = λ p l e. leaf_good s p l (subst (Finds TreeFits) e (at_fits p s h)) (good p l e); narrow = λ p. width_at s p narrow }
  where
    good : (p : List Part) (l : Leaf) → at s p ≡ Some (leaf l) → good_leaf s p l ≡ true
    good p l e = true_from_ne_false (good_leaf s p l)
        (λ bad. true≢false (sym (ap not bad) ∙ sym (ap (λ o. not (good_content s p o)) e) ∙ stands_each p (λ q. has_bad_path s q ≡ false) s (none_passes (has_bad_path s) (places s) none) (ap is_some e)))

texts_prop : (l : Leaf) → IsProp (TextsFit l)
texts_prop (leaves.Text t) = Bool-set _ _
texts_prop (leaves.Tag t) = Bool-set _ _
texts_prop (leaves.Int z) = Bool-set _ _
texts_prop (leaves.Pointer name frame) = Bool-set _ _
texts_prop l = Unit-prop

mutual
  tree_prop : (t : StoryTree) → IsProp (TreeFits t)
  tree_prop (leaf l) = texts_prop l
  tree_prop (container name flags content named) = ×_prop (trees_prop content) (keyed_prop named)

  trees_prop : (ts : Trees) → IsProp (TreesFit ts)
  trees_prop no_trees = Unit-prop
  trees_prop (tree t ts) = ×_prop (tree_prop t) (trees_prop ts)

  keyed_prop : (ks : Keyed) → IsProp (KeyedFit ks)
  keyed_prop no_keys = Unit-prop
  keyed_prop (key k t ks) = ×_prop (tree_prop t) (keyed_prop ks)

-- what the type of an accepted story says of it is enough
pub spelled_fits : (s : StoryTree) → IsSpelled s → bad_places s ≡ [] → StoryFits s
spelled_fits s spelled good =
    good_fits s (∥∥₁_elim spelled (tree_prop s) (λ w. subst (Yields TreeFits) w.1 (story_fits w.0))) (∥∥₁_elim spelled (Bool-set _ _) (λ w. story_narrow w.0 s w.1)) good

accepted_fits : (s t : StoryTree) → TreeFits s → is_narrow s ≡ true → accepted s ≡ Ok t → StoryFits t
unfolding accepted
accepted_fits s t h narrow e = (elim (bad_places s) as (λ ps. bad_places s ≡ ps → first (map bad_path ps) s ≡ Ok t → StoryFits t)
    [ [] ↦ λ is f. (let same : s ≡ t = cc in subst StoryFits same (good_fits s h narrow is)) | p ∷ ps ↦ λ is f. absurd cc ]) refl e

-- an accepted story has what is asked of it
pub accepted_story_fits : (bytes : List ℕ) (s : StoryTree) → accepted_story bytes ≡ Ok s → StoryFits s
unfolding accepted_story
accepted_story_fits bytes s e = (elim (story bytes) as (λ r. story bytes ≡ r → Yields TreeFits r → and_then accepted r ≡ Ok s → StoryFits s)
    [ Ok t ↦ λ is h f. accepted_fits t s h (story_narrow bytes t is) f | Err r ↦ λ is h f. absurd cc ]) refl (story_fits bytes) e
