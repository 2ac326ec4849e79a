-- Which numbers the content at a part in a container may have.
use Rattle.std.proofs.Common.{◌≡◌, ◌∙◌, ap, sym, refl, inl, inr, ℕ, ◌+◌, ◌<◌, ◌≤◌, List, [], ◌∷◌, ◌++◌, length, true, false, true≢false, ◌&&◌, nat_le, nat_lt, None, Less, Equal, arith}
use Rattle.ink_tree.proofs.Common.{and_parts, cases_lt, false_from_ne_true, nat_tests, ranked, tied_itself, length-append, keys_rise, part_order, place_order, is_around, StoryTree, at, Part, NoneBefore, NoneFrom, Spans, node_place, IsNode, NodeId}
use Rattle.ink_tree.proofs.Absent as absent
use Rattle.ink_tree.proofs.Down.{last_same}
use Rattle.ink_tree.proofs.Prefixes.{around_above, around_below, below_around}
use Rattle.ink_model.proofs.Orders.{part_total}
use Rattle.ink_tree.proofs.Rising.{numbered_in_order}

-- ---- places one part down

comes_inside : (p : List Part) (x : Part) → place_order p (p ++ x ∷ []) ≡ Less
comes_inside [] x = refl
comes_inside (z ∷ p) x = rw (tied_itself part_total z) (comes_inside p x)

comes_later : (p : List Part) (x y : Part) → part_order x y ≡ Less → place_order (p ++ x ∷ []) (p ++ y ∷ []) ≡ Less
comes_later [] x y h = rw h refl
comes_later (z ∷ p) x y h = rw (tied_itself part_total z) (comes_later p x y h)

other_part : (x y : Part) → part_order x y ≡ Less → x ≡ y → ⊥
other_part x y h e = let less_tied : Less ≡ Equal = sym h ∙ ap (part_order x) (sym e) ∙ tied_itself part_total x in cc

-- no place is around one beside it
beside : (p : List Part) (x y : Part) → part_order x y ≡ Less → is_around (p ++ x ∷ []) (p ++ y ∷ []) ≡ false
beside p x y h =
    around_above (p ++ x ∷ []) p y (λ e. other_part x y h (last_same p p x y e).1)
    ∙ false_from_ne_true (is_around (p ++ x ∷ []) p)
    (λ h.
    let under = below_around (p ++ x ∷ []) p h in
    omega (arith, ap length under.1, length-append (p ++ x ∷ []) under.0, length-append p (x ∷ [])))

-- ---- their numbers

module _ (s : StoryTree) (rising : keys_rise s ≡ true) where
  before : (m n : NodeId) (p q : List Part) → IsNode s m → IsNode s n → node_place s m ≡ p → node_place s n ≡ q → place_order p q ≡ Less → m.number < n.number
  before m n p q is_m is_n at_p at_q h =
      ranked m.number n.number Less (sym h ∙ (λ i. place_order (sym at_p i) (sym at_q i)) ∙ numbered_in_order s rising m n is_m is_n)

  module _ (p : List Part) (x : Part) (m : NodeId) (is : IsNode s m) where
    -- behind the container itself
    pub behind_holder : node_place s m ≡ p → NoneBefore s (p ++ x ∷ []) (m.number + 1)
    behind_holder here = λ n is_n same. let later = before m n p (p ++ x ∷ []) is is_n here same (comes_inside p x) in omega arith

    -- behind all that is in a content at a part before
    pub behind_child : (y : Part) (b : ℕ) → node_place s m ≡ p ++ y ∷ [] → part_order y x ≡ Less → Spans s m.number b → NoneBefore s (p ++ x ∷ []) b
    behind_child y b here less spans = λ n is_n same.
        let later = before m n (p ++ y ∷ []) (p ++ x ∷ []) is is_n here same (comes_later p y x less) in
        let out : (nat_le m.number n.number && nat_lt n.number b) ≡ false =
        sym (spans n is_n) ∙ (λ i. is_around (here i) (same i)) ∙ beside p y x less in
        elim (cases_lt n.number b) [
          | inl within ↦
              let low : nat_le m.number n.number ≡ true = grind (arith, nat_tests) in
              let high : nat_lt n.number b ≡ true = grind (arith, nat_tests) in
              absurd (true≢false (sym (λ i. low i && high i) ∙ out))
          | inr past ↦ past
        ]

    -- before a content at a part behind
    pub before_child : (y : Part) → node_place s m ≡ p ++ y ∷ [] → part_order x y ≡ Less → NoneFrom s (p ++ x ∷ []) m.number
    before_child y here less = λ n is_n same. before n m (p ++ x ∷ []) (p ++ y ∷ []) is_n is same here (comes_later p x y less)

  -- before the container's end
  pub before_end : (p : List Part) (x : Part) (m : NodeId) (b i : ℕ) → node_place s m ≡ p → Spans s m.number b → b ≤ i → NoneFrom s (p ++ x ∷ []) i
  before_end p x m b i here spans past = λ n is_n same.
      let in_it : (nat_le m.number n.number && nat_lt n.number b) ≡ true = sym (spans n is_n) ∙ (λ i. is_around (here i) (same i)) ∙ around_below p (x ∷ []) in
      let two = and_parts (nat_le m.number n.number) (nat_lt n.number b) in_it in
      let high : n.number < b = grind (arith, nat_tests, two.1) in
      omega arith

-- where no number is left nothing stands
pub no_number : (s : StoryTree) (p : List Part) (i : ℕ) → NoneBefore s p i → NoneFrom s p i → at s p ≡ None
no_number s p i low high =
    absent.nowhere s p
    (λ k within same. let from = low (record { number = k }) within same in let below = high (record { number = k }) within same in omega arith)
