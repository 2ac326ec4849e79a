-- What is kept of the contents of a story is what stands at their places.
use Rattle.std.proofs.Common.{◌≡◌, ◌∙◌, inl, inr, ap, sym, refl, subst, ℕ, zero, suc, ◌+◌, ◌<◌, ◌≤◌, List, [], ◌∷◌, ◌++◌, length, map, true, false, true≢false, ◌&&◌, nat_le, nat_lt, Option, Some, None, is_some, option_and_then, option_map, slice_get, unwrap_or, append_assoc, arith}
use Rattle.ink_tree.proofs.Common.{cases_lt, and_parts, false_from_ne_true, nat_tests, append-nil, length-append, length-map, none-some, same_Some, slice_get_within, keys_rise, keys_rise_in, keys_rise_by_key, is_below, Node, places, places_from, places_by_key, StoryTree, leaf, container, Trees, no_trees, tree, Keyed, no_keys, key, nth, by_key, at, count, is_around, Part, Index, Name, KeepsContent, KeepsAll, KeepsAt, Spans, way_to, node_place, IsNode, NodeId}
use Rattle.ink_json.proofs.Listing.{many, many_from}
use Rattle.ink_json.specs.Listing.{nodes_of, nodes_from, nodes_by_key, own_node, story_nodes}
use Rattle.ink_model.specs.Story.View.{own_content}
use Rattle.ink_tree.proofs.Absent.{absent, lacks}
use Rattle.ink_tree.proofs.Further.{below}
use Rattle.ink_tree.proofs.Kept.{some_place}
use Rattle.ink_tree.proofs.Prefixes.{around_below, below_around}
use Rattle.ink_tree.proofs.Rising.{one_number, stands_at}
use Rattle.ink_tree.proofs.Standing.{at_append}
use Rattle.ink_tree.proofs.Nodes.{at_its_key, further, node_stands}

module _ (s : StoryTree) where
  -- ---- places from a number on

  -- these places, as seen from further up, are those of the story from a number on
  abbrev Sits : ℕ → List Part → List (List Part) → Type 0
  Sits n p [] = Unit {0}
  Sits n p (q ∷ qs) = (slice_get (places s) n ≡ Some (p ++ q)) × Sits (suc n) p qs

  sits_front : (n : ℕ) (p : List Part) (xs ys : List (List Part)) → Sits n p (xs ++ ys) → Sits n p xs
  sits_front n p [] ys h = tt
  sits_front n p (x ∷ xs) ys h = (h.0, sits_front (suc n) p xs ys h.1)

  sits_back : (n m : ℕ) (p : List Part) (xs ys : List (List Part)) → m ≡ n + length xs → Sits n p (xs ++ ys) → Sits m p ys
  sits_back n m p [] ys e h = let same : m ≡ n = omega arith in subst (λ k. Sits k p ys) (sym same) h
  sits_back n m p (x ∷ xs) ys e h = sits_back (suc n) m p xs ys (omega arith) h.1

  sits_under : (n : ℕ) (p : List Part) (x : Part) (qs : List (List Part)) → Sits n p (map (λ q. x ∷ q) qs) → Sits n (p ++ x ∷ []) qs
  sits_under n p x [] h = tt
  sits_under n p x (q ∷ qs) h = (h.0 ∙ ap (λ r. Some r) (sym (append_assoc p (x ∷ []) q)), sits_under (suc n) p x qs h.1)

  got : (done : List (List Part)) (q : List Part) (qs : List (List Part)) → slice_get (done ++ q ∷ qs) (length done) ≡ Some q
  got [] q qs = refl
  got (d ∷ done) q qs = got done q qs

  sits_all : (done qs : List (List Part)) (n : ℕ) → n ≡ length done → places s ≡ done ++ qs → Sits n [] qs
  sits_all done [] n long e = tt
  sits_all done (q ∷ qs) n long e = (
    ap (slice_get (places s)) long ∙ ap (λ ps. slice_get ps (length done)) e ∙ got done q qs,
    sits_all (done ++ q ∷ []) qs (suc n) (omega (arith, length-append done (q ∷ []))) (e ∙ sym (append_assoc done (q ∷ []) qs)),
  )

  -- the first of them is that of the first content by index
  begins : (n : ℕ) (p : List Part) (content : Trees) (named : Keyed) → Sits n p (places_from 0 content ++ places_by_key named) → 0 < count content
      → slice_get (places s) n ≡ Some (p ++ Index 0 ∷ [])
  begins n p no_trees named h some = absurd (omega arith)
  begins n p (tree (leaf l) ts) named h some = h.0
  begins n p (tree (container name flags content inner) ts) named h some = h.0

  -- ---- what is kept from a number on

  abbrev Each : ℕ → List Node → Type 0
  Each n [] = Unit {0}
  Each n (k ∷ ks) = KeepsAt s n k × Each (suc n) ks

  each_append : (n m : ℕ) (xs ys : List Node) → m ≡ n + length xs → Each n xs → Each m ys → Each n (xs ++ ys)
  each_append n m [] ys e h g = let same : m ≡ n = omega arith in subst (λ k. Each k ys) same g
  each_append n m (x ∷ xs) ys e h g = (h.0, each_append (suc n) m xs ys (omega arith) h.1 g)

  each_at : (n : ℕ) (ks : List Node) (i m : ℕ) (k : Node) → m ≡ n + i → Each n ks → slice_get ks i ≡ Some k → KeepsAt s m k
  each_at n [] i m k e h is = absurd (none-some k is)
  each_at n (x ∷ ks) zero m k e h is =
      let same : n ≡ m = omega arith in
      subst (λ j. KeepsAt s j k) same (subst (KeepsAt s n) (same_Some x k is) h.0)
  each_at n (x ∷ ks) (suc i) m k e h is = each_at (suc n) ks i m k (omega arith) h.1 is

  -- ---- one content

  placed : (n : ℕ) (p : List Part) → slice_get (places s) n ≡ Some (p ++ []) → node_place s (record { number = n }) ≡ p
  placed n p is = ap (λ o. unwrap_or o []) is ∙ append-nil p

  keeps : (n : ℕ) (p : List Part) (t : StoryTree) (k : Node) → slice_get (places s) n ≡ Some (p ++ []) → at s p ≡ Some t → k.holder < length (places s) → way_to s k.holder k.last ≡ p
      → k.content ≡ own_content t → KeepsContent s (node_place s (record { number = n })) k
  keeps n p t k is stands inside way own =
      subst (λ q. KeepsContent s q k) (sym (placed n p is)) (inside, way, ap Some own ∙ sym (ap (option_map own_content) stands))

  -- ---- how far a content reaches

  sits_at : (n m : ℕ) (p : List Part) (qs : List (List Part)) → Sits n p qs → n ≤ m → m < n + length qs → (r : List Part) × (slice_get (places s) m ≡ Some (p ++ r))
  sits_at n m p [] h low high = absurd (omega arith)
  sits_at n m p (q ∷ qs) h low high =
      elim (cases_lt n m) [
        | inl later ↦ sits_at (suc n) m p qs h.1 (omega arith) (omega arith)
        | inr now ↦ let same : n ≡ m = omega arith in (q, subst (λ k. slice_get (places s) k ≡ Some (p ++ q)) same h.0)
      ]

  sits_got : (n j m : ℕ) (p : List Part) (qs : List (List Part)) (q : List Part) → m ≡ n + j → Sits n p qs → slice_get qs j ≡ Some q → slice_get (places s) m ≡ Some (p ++ q)
  sits_got n j m p [] q e h is = absurd (none-some q is)
  sits_got n zero m p (x ∷ qs) q e h is =
      let same : n ≡ m = omega arith in subst (λ k. slice_get (places s) k ≡ Some (p ++ q)) same (h.0 ∙ ap (λ r. Some (p ++ r)) (same_Some x q is))
  sits_got n (suc j) m p (x ∷ qs) q e h is = sits_got (suc n) j m p qs q (omega arith) h.1 is

  module _ (whole : keys_rise s ≡ true) (n : ℕ) (p : List Part) (t : StoryTree) (stands : at s p ≡ Some t) (sits : Sits n p (places t)) where
    outside : (q : NodeId) → IsNode s q → ((j : ℕ) → j < length (places t) → q.number ≡ n + j → ⊥) → is_around p (node_place s q) ≡ false
    outside q node out =
        false_from_ne_true (is_around p (node_place s q))
        (λ h.
        let under = below_around p (node_place s q) h in
        let r = under.0 in
        let there : is_some (at t r) ≡ true =
        ap is_some (ap (option_and_then (λ u. at u r)) (sym stands) ∙ sym (at_append p r s) ∙ ap (at s) (sym under.1)) ∙ node_stands s q whole in
        let none : at t r ≡ None =
        absent r t
        (lacks r (places t)
        (λ j x got same. out j (slice_get_within (places t) j x got)
        (one_number s q.number (n + j) (p ++ r) whole (stands_at (places s) q.number node ∙ ap (λ o. Some o) under.1)
        (sits_got n j (n + j) p (places t) x refl sits got ∙ ap (λ y. Some (p ++ y)) same)))) in
        true≢false (sym there ∙ ap is_some none))

    inside : (q : NodeId) → n ≤ q.number → q.number < n + length (places t) → is_around p (node_place s q) ≡ true
    inside q low high =
        let under = sits_at n q.number p (places t) sits low high in
        ap (λ o. is_around p (unwrap_or o [])) under.1 ∙ around_below p under.0

    spans : (b : ℕ) → node_place s (record { number = n }) ≡ p → b ≡ n + length (places t) → Spans s n b
    spans b here long = λ q node.
        ap (λ x. is_around x (node_place s q)) here
        ∙ elim (cases_lt q.number n) [
          | inl before ↦ let no : nat_le n q.number ≡ false = grind (arith, nat_tests) in rw no (outside q node (λ j within same. absurd (omega arith)))
          | inr from ↦
              let low : nat_le n q.number ≡ true = grind (arith, nat_tests) in
              elim (cases_lt q.number b) [
                | inl within ↦ let high : nat_lt q.number b ≡ true = grind (arith, nat_tests) in rw (low, high) (inside q from (omega arith))
                | inr past ↦ let high : nat_lt q.number b ≡ false = grind (arith, nat_tests) in rw (low, high) (outside q node (λ j within same. absurd (omega arith)))
              ]
        ]

  module _ (whole : keys_rise s ≡ true) where
    mutual
      hold : (n h : ℕ) (x : Option Part) (p : List Part) (t : StoryTree) → h < length (places s) → way_to s h x ≡ p → at s p ≡ Some t → Sits n p (places t) → keys_rise t ≡ true
          → Each n (nodes_of n h x t)
      hold n h x p (leaf l) inside way stands sits rise =
          ((keeps n p (leaf l) (own_node h x (leaf l)) sits.0 stands inside way refl, spans whole n p (leaf l) stands sits (n + 1) (placed n p sits.0) refl, λ some. absurd (omega arith)), tt)
      hold n h x p (container name flags content named) inside way stands sits rise =
          let two = and_parts (keys_rise_in content) (keys_rise_by_key named) rise in
          let within = slice_get_within (places s) n (p ++ []) sits.0 in
          let here = placed n p sits.0 in
          let elements = nodes_from (n + 1) n 0 content in
          let m = n + 1 + length elements in
          let t = container name flags content named in
          let next : n + 1 ≡ suc n = omega arith in
          let rest = subst (λ k. Sits k p (places_from 0 content ++ places_by_key named)) (sym next) sits.1 in (
            (
              keeps n p t (own_node h x t) sits.0 stands inside way refl,
              spans whole n p t stands sits (n + length (places t)) here refl,
              λ some. ap (λ o. unwrap_or o []) (begins (n + 1) p content named rest some) ∙ ap (λ q. q ++ Index 0 ∷ []) (sym here),
            ),
            subst (λ k. Each k (elements ++ nodes_by_key m n named)) next
                (each_append (n + 1) m elements (nodes_by_key m n named) refl
                (hold_from (n + 1) n 0 p content within here
                (λ k j e. sym (below s p (Index k) (Some (container name flags content named)) (sym stands)) ∙ ap (λ i. nth i content) (omega (arith, e)))
                (sits_front (n + 1) p (places_from 0 content) (places_by_key named) rest) two.0)
                (hold_by_key m n p named within here
                (λ k some. sym (below s p (Name k) (Some (container name flags content named)) (sym stands)))
                (sits_back (n + 1) m p (places_from 0 content) (places_by_key named) (omega (arith, many_from (n + 1) n 0 content)) rest) two.1)),
          )

      hold_from : (n h i : ℕ) (p : List Part) (ts : Trees) → h < length (places s) → node_place s (record { number = h }) ≡ p → ((k j : ℕ) → k ≡ i + j → at s (p ++ Index k ∷ []) ≡ nth j ts)
          → Sits n p (places_from i ts) → keys_rise_in ts ≡ true → Each n (nodes_from n h i ts)
      hold_from n h i p no_trees inside here each sits rise = tt
      hold_from n h i p (tree t ts) inside here each sits rise =
          let two = and_parts (keys_rise t) (keys_rise_in ts) rise in
          let first = nodes_of n h (Some (Index i)) t in
          let m = n + length first in
          each_append n m first (nodes_from m h (i + 1) ts) refl
          (hold n h (Some (Index i)) (p ++ Index i ∷ []) t inside (ap (λ q. q ++ Index i ∷ []) here) (each i 0 (omega arith))
          (sits_under n p (Index i) (places t) (sits_front n p (map (λ q. Index i ∷ q) (places t)) (places_from (i + 1) ts) sits)) two.0)
          (hold_from m h (i + 1) p ts inside here (λ k j e. each k (suc j) (omega (arith, e)))
          (sits_back n m p (map (λ q. Index i ∷ q) (places t)) (places_from (i + 1) ts)
          (omega (arith, many n h (Some (Index i)) t, length-map (places t) (λ q. Index i ∷ q))) sits) two.1)

      hold_by_key : (n h : ℕ) (p : List Part) (ks : Keyed) → h < length (places s) → node_place s (record { number = h }) ≡ p
          → ((k : List ℕ) → is_some (by_key k ks) ≡ true → at s (p ++ Name k ∷ []) ≡ by_key k ks)
          → Sits n p (places_by_key ks) → keys_rise_by_key ks ≡ true → Each n (nodes_by_key n h ks)
      hold_by_key n h p no_keys inside here each sits rise = tt
      hold_by_key n h p (key k t ks) inside here each sits rise =
          let apart = and_parts (is_below k ks) (keys_rise t && keys_rise_by_key ks) rise in
          let two = and_parts (keys_rise t) (keys_rise_by_key ks) apart.1 in
          let first = nodes_of n h (Some (Name k)) t in
          let m = n + length first in
          each_append n m first (nodes_by_key m h ks) refl
          (hold n h (Some (Name k)) (p ++ Name k ∷ []) t inside (ap (λ q. q ++ Name k ∷ []) here) (each k (ap is_some (at_its_key k t ks)) ∙ at_its_key k t ks)
          (sits_under n p (Name k) (places t) (sits_front n p (map (λ q. Name k ∷ q) (places t)) (places_by_key ks) sits)) two.0)
          (hold_by_key m h p ks inside here (λ o some. let on = further o k t ks apart.0 some in each o (ap is_some on ∙ some) ∙ on)
          (sits_back n m p (map (λ q. Name k ∷ q) (places t)) (places_by_key ks)
          (omega (arith, many n h (Some (Name k)) t, length-map (places t) (λ q. Name k ∷ q))) sits) two.1)

pub keeps_all : (s : StoryTree) (ns : List Node) → ns ≡ story_nodes s → keys_rise s ≡ true → KeepsAll s ns
keeps_all s ns is rise = λ i n e.
    each_at s 0 (story_nodes s) i i n (omega arith) (hold s rise 0 0 None [] s (some_place s) refl refl (sits_all s [] (places s) 0 refl refl) rise)
    (ap (λ ks. slice_get ks i) (sym is) ∙ e)

pub all_kept : (s : StoryTree) (ns : List Node) → ns ≡ story_nodes s → length ns ≡ length (places s)
all_kept s ns is = ap length is ∙ many 0 0 None s
