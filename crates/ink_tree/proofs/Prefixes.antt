-- Places around others.
use Rattle.std.proofs.Common.{◌≡◌, ap, refl, sym, ◌∙◌, List, [], ◌∷◌, ◌++◌, Bool, true, false, ◌&&◌, is_eq, arith}
use Rattle.std.proofs.lemmas.Map.Text.{is_eq-slice_cmp}
use Rattle.std.proofs.lemmas.Slice.Eq.{bytes_eq-Decides}
use Rattle.std.proofs.Math.Bool.{and-false}
use Rattle.ink_tree.proofs.Common.{append-nil, nat_tests, and_parts, is_around, Part, Index, Name, nat_list_cmp_total, tied_itself}
use Rattle.ink_model.specs.Values.Value.{same_part}

part_is : (x y : Part) → same_part x y ≡ true → x ≡ y
part_is (Index i) (Index j) h = let same : i ≡ j = grind (arith, nat_tests, h) in ap Index same
part_is (Index i) (Name n) h = absurd cc
part_is (Name m) (Index j) h = absurd cc
part_is (Name m) (Name n) h = ap Name ((bytes_eq-Decides m n).0 h)

itself : (x : Part) → same_part x x ≡ true
itself (Index i) = grind (arith, nat_tests)
itself (Name n) = sym (is_eq-slice_cmp n n) ∙ ap is_eq (tied_itself nat_list_cmp_total n)

both_same : (b u v : Bool) → (b ≡ true → u ≡ v) → (b && u) ≡ (b && v)
both_same true u v h = h refl
both_same false u v h = refl

not_both : (b u : Bool) → (b ≡ true → u ≡ false) → (b && u) ≡ false
not_both true u h = h refl
not_both false u h = refl

-- another place is around a place where it is around the one above
pub around_above : (p q : List Part) (x : Part) → (p ≡ q ++ x ∷ [] → ⊥) → is_around p (q ++ x ∷ []) ≡ is_around p q
around_above [] q x h = refl
around_above (y ∷ []) [] x h = not_both (same_part y x) true (λ same. absurd (h (ap (λ z. z ∷ []) (part_is y x same))))
around_above (y ∷ z ∷ p) [] x h = and-false (same_part y x)
around_above (y ∷ p) (z ∷ q) x h = both_same (same_part y z) (is_around p (q ++ x ∷ [])) (is_around p q) (λ same. around_above p q x (λ e. h (λ i. part_is y z same i ∷ e i)))

-- a place is around all that is below it, and around nothing else
pub around_below : (p r : List Part) → is_around p (p ++ r) ≡ true
around_below [] r = refl
around_below (x ∷ p) r = rw (itself x) (around_below p r)

pub below_around : (p q : List Part) → is_around p q ≡ true → (r : List Part) × (q ≡ p ++ r)
below_around [] q h = (q, refl)
below_around (x ∷ p) [] h = absurd cc
below_around (x ∷ p) (y ∷ q) h =
    let two = and_parts (same_part x y) (is_around p q) h in
    let rest = below_around p q two.1 in
    (rest.0, (λ i. sym (part_is x y two.0) i ∷ rest.1 i))

-- a place is around itself
pub around_same : (p q : List Part) → p ≡ q → true ≡ is_around p q
around_same p q e = sym (around_below p []) ∙ ap (is_around p) (append-nil p ∙ e)
