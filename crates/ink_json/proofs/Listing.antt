-- A tree from the list of its nodes, and listing them one element and one key at a time.
use Rattle.std.proofs.Common.{◌≡◌, ◌∙◌, ap, sym, refl, ℕ, suc, ◌+◌, List, [], ◌∷◌, ◌++◌, length, map, take, drop, slice_set, Option, Some, None, append_assoc}
use Rattle.ink_json.proofs.Common.{append-nil, length-append, length-map, Part, Index, Name, Node}
use Rattle.ink_model.specs.Story.Places.{places, places_from, places_by_key}
use Rattle.ink_model.specs.Story.Tree.{StoryTree, leaf, container, Trees, no_trees, tree, Keyed, no_keys, key, count}
use Rattle.ink_model.specs.Story.View.{own_content, count_keys}
use Rattle.ink_json.specs.Listing.{nodes_of, nodes_from, nodes_by_key, story_nodes, Standing, trees_in, keys_in, with_content, standing, first_tree, rebuilt}

-- ---- as many as there are places

mutual
  pub many : (n h : ℕ) (x : Option Part) (t : StoryTree) → length (nodes_of n h x t) ≡ length (places t)
  many n h x (leaf l) = refl
  many n h x (container name flags content named) =
      let inside = nodes_from (n + 1) n 0 content in
      let by_keys = nodes_by_key (n + 1 + length inside) n named in
      ap suc (length-append inside by_keys ∙ (λ i. many_from (n + 1) n 0 content i + many_by_key (n + 1 + length inside) n named i)
      ∙ sym (length-append (places_from 0 content) (places_by_key named)))

  pub many_from : (n h i : ℕ) (ts : Trees) → length (nodes_from n h i ts) ≡ length (places_from i ts)
  many_from n h i no_trees = refl
  many_from n h i (tree t ts) =
      let first = nodes_of n h (Some (Index i)) t in
      length-append first (nodes_from (n + length first) h (i + 1) ts)
      ∙ (λ j. (many n h (Some (Index i)) t ∙ sym (length-map (places t) (λ p. Index i ∷ p))) j + many_from (n + length first) h (i + 1) ts j)
      ∙ sym (length-append (map (λ p. Index i ∷ p) (places t)) (places_from (i + 1) ts))

  pub many_by_key : (n h : ℕ) (ks : Keyed) → length (nodes_by_key n h ks) ≡ length (places_by_key ks)
  many_by_key n h no_keys = refl
  many_by_key n h (key k t ks) =
      let first = nodes_of n h (Some (Name k)) t in
      length-append first (nodes_by_key (n + length first) h ks)
      ∙ (λ j. (many n h (Some (Name k)) t ∙ sym (length-map (places t) (λ p. Name k ∷ p))) j + many_by_key (n + length first) h ks j)
      ∙ sym (length-append (map (λ p. Name k ∷ p) (places t)) (places_by_key ks))

-- ---- what nodes stand for

-- elements from this index on, each with the part that leads to it
abbrev pub standing_from : ℕ → Trees → List Standing
standing_from i no_trees = []
standing_from i (tree t ts) = (Some (Index i), t) ∷ standing_from (i + 1) ts

abbrev pub standing_by_key : Keyed → List Standing
standing_by_key no_keys = []
standing_by_key (key k t ks) = (Some (Name k), t) ∷ standing_by_key ks

elements_taken : (i : ℕ) (ts : Trees) (xs : List Standing) → trees_in (take (count ts) (standing_from i ts ++ xs)) ≡ ts
elements_taken i no_trees xs = refl
elements_taken i (tree t ts) xs = ap (tree t) (elements_taken (i + 1) ts xs)

elements_left : (i : ℕ) (ts : Trees) (xs : List Standing) → drop (count ts) (standing_from i ts ++ xs) ≡ xs
elements_left i no_trees xs = refl
elements_left i (tree t ts) xs = elements_left (i + 1) ts xs

keys_taken : (ks : Keyed) (xs : List Standing) → keys_in (take (count_keys ks) (standing_by_key ks ++ xs)) ≡ ks
keys_taken no_keys xs = refl
keys_taken (key k t ks) xs = ap (key k t) (keys_taken ks xs)

keys_left : (ks : Keyed) (xs : List Standing) → drop (count_keys ks) (standing_by_key ks ++ xs) ≡ xs
keys_left no_keys xs = refl
keys_left (key k t ks) xs = keys_left ks xs

-- a container in front of what is in it
gathered : (x : Option Part) (name : Option (List ℕ)) (flags : ℕ) (content : Trees) (named : Keyed) (xs : List Standing)
    → with_content (own_content (container name flags content named)) x (standing_from 0 content ++ (standing_by_key named ++ xs)) ≡ (x, container name flags content named) ∷ xs
gathered x name flags content named xs =
    let keyed = standing_by_key named ++ xs in
    let held : Trees → List Standing → List Standing = λ ts ys. (x, container name flags ts (keys_in (take (count_keys named) ys))) ∷ drop (count_keys named) ys in
    let mended : Keyed → List Standing → List Standing = λ ks ys. (x, container name flags content ks) ∷ ys in
    (λ j. held (elements_taken 0 content keyed j) (elements_left 0 content keyed j)) ∙ (λ j. mended (keys_taken named xs j) (keys_left named xs j))

mutual
  pub stands : (n h : ℕ) (x : Option Part) (t : StoryTree) (rest : List Node) → standing (nodes_of n h x t ++ rest) ≡ (x, t) ∷ standing rest
  stands n h x (leaf l) rest = refl
  stands n h x (container name flags content named) rest =
      let elements = nodes_from (n + 1) n 0 content in
      let m = n + 1 + length elements in
      let by_keys = nodes_by_key m n named in
      ap (with_content (own_content (container name flags content named)) x)
      (ap standing (append_assoc elements by_keys rest) ∙ stand_from (n + 1) n 0 content (by_keys ++ rest) ∙ ap (λ ys. standing_from 0 content ++ ys) (stand_by_key m n named rest))
      ∙ gathered x name flags content named (standing rest)

  pub stand_from : (n h i : ℕ) (ts : Trees) (rest : List Node) → standing (nodes_from n h i ts ++ rest) ≡ standing_from i ts ++ standing rest
  stand_from n h i no_trees rest = refl
  stand_from n h i (tree t ts) rest =
      let first = nodes_of n h (Some (Index i)) t in
      let others = nodes_from (n + length first) h (i + 1) ts in
      ap standing (append_assoc first others rest) ∙ stands n h (Some (Index i)) t (others ++ rest) ∙ ap (λ ys. (Some (Index i), t) ∷ ys) (stand_from (n + length first) h (i + 1) ts rest)

  pub stand_by_key : (n h : ℕ) (ks : Keyed) (rest : List Node) → standing (nodes_by_key n h ks ++ rest) ≡ standing_by_key ks ++ standing rest
  stand_by_key n h no_keys rest = refl
  stand_by_key n h (key k t ks) rest =
      let first = nodes_of n h (Some (Name k)) t in
      let others = nodes_by_key (n + length first) h ks in
      ap standing (append_assoc first others rest) ∙ stands n h (Some (Name k)) t (others ++ rest) ∙ ap (λ ys. (Some (Name k), t) ∷ ys) (stand_by_key (n + length first) h ks rest)

pub rebuilt_nodes : (t : StoryTree) → rebuilt (story_nodes t) ≡ t
rebuilt_nodes t = ap rebuilt (sym (append-nil (story_nodes t))) ∙ ap first_tree (stands 0 0 None t [])

-- a list of a tree's nodes is that of the tree that it stands for
pub listed : (ns : List Node) (t : StoryTree) → ns ≡ story_nodes t → (rebuilt ns ≡ t) × (ns ≡ story_nodes (rebuilt ns))
listed ns t is =
    let same : rebuilt ns ≡ t = ap rebuilt is ∙ rebuilt_nodes t in
    (same, is ∙ ap story_nodes (sym same))

-- ---- one after another

-- some were listed, and the rest is still to come
pub listed_more : (now first : List Node) (rest : ℕ → List Node) (whole new : List Node) → now ++ (first ++ rest (length now + length first)) ≡ whole → new ≡ now ++ first
    → new ++ rest (length new) ≡ whole
listed_more now first rest whole new total more =
    ap (λ l. l ++ rest (length l)) more ∙ ap (λ n. (now ++ first) ++ rest n) (length-append now first) ∙ append_assoc now first (rest (length now + length first)) ∙ total

pub from_more : (now new whole : List Node) (h i : ℕ) (t : StoryTree) (ts : Trees) → now ++ nodes_from (length now) h i (tree t ts) ≡ whole
    → new ≡ now ++ nodes_of (length now) h (Some (Index i)) t → new ++ nodes_from (length new) h (i + 1) ts ≡ whole
from_more now new whole h i t ts = listed_more now (nodes_of (length now) h (Some (Index i)) t) (λ n. nodes_from n h (i + 1) ts) whole new

pub by_key_more : (now new whole : List Node) (h : ℕ) (k : List ℕ) (t : StoryTree) (ks : Keyed) → now ++ nodes_by_key (length now) h (key k t ks) ≡ whole
    → new ≡ now ++ nodes_of (length now) h (Some (Name k)) t → new ++ nodes_by_key (length new) h ks ≡ whole
by_key_more now new whole h k t ks = listed_more now (nodes_of (length now) h (Some (Name k)) t) (λ n. nodes_by_key n h ks) whole new

-- ---- a container whose node is mended once all in it is known

-- one of them with another in its place
pub set_at : (before inside : List Node) (own new : Node) → slice_set (before ++ own ∷ inside) (length before) new ≡ before ++ new ∷ inside
set_at [] inside own new = refl
set_at (n ∷ before) inside own new = ap (λ l. n ∷ l) (set_at before inside own new)
