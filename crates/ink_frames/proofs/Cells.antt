-- What rows were before one was set.
use Rattle.std.proofs.Common.{◌≡◌, ◌∙◌, ◌&&◌, ◌<◌, ◌≤◌, ℕ, zero, suc, List, [], ◌∷◌, ◌++◌, true, ap, arith, drop, get_or, is_lt, length, refl, set, take}
use Rattle.std.proofs.lemmas.Bool.{and_from}
use Rattle.std.proofs.lemmas.List.{append-nil, drop_all, take_all}
use Rattle.std.specs.List.{remove}
use Rattle.ink_frames.proofs.Common.{is_before, name_order, rows_rise, Values, Value}
use Rattle.ink_frames.specs.Cells.{value_at}
use Rattle.ink_frames.proofs.Rises.{both}

-- ---- a value is put back

pub value_is : (i : ℕ) (v : Value) (rs : Values) (d : List ℕ × Value) → i < length rs → set rs i ((get_or rs i d).0, v) ≡ value_at i v rs
value_is i v [] d h = absurd (omega arith)
value_is zero v (r ∷ rs) d h = refl
value_is (suc i) v (r ∷ rs) d h = ap (λ qs. r ∷ qs) (value_is i v rs d (omega arith))

pub value_past : (i : ℕ) (v : Value) (rs : Values) → length rs ≤ i → value_at i v rs ≡ rs
value_past i v [] h = refl
value_past zero v (r ∷ rs) h = absurd (omega arith)
value_past (suc i) v (r ∷ rs) h = ap (λ qs. r ∷ qs) (value_past i v rs (omega arith))

-- what it held undoes it
pub value_back : (i : ℕ) (v w : Value) (rs : Values) → ((d : List ℕ × Value) → w ≡ (get_or rs i d).1) → value_at i w (value_at i v rs) ≡ rs
value_back i v w [] is = refl
value_back zero v w (r ∷ rs) is = ap (λ x. (r.0, x) ∷ rs) (is r)
value_back (suc i) v w (r ∷ rs) is = ap (λ qs. r ∷ qs) (value_back i v w rs is)

value_before : (k : List ℕ) (i : ℕ) (v : Value) (rs : Values) → is_before name_order k (value_at i v rs) ≡ is_before name_order k rs
value_before k i v [] = refl
value_before k zero v (r ∷ rs) = refl
value_before k (suc i) v (r ∷ rs) = ap (λ b. is_lt (name_order k r.0) && b) (value_before k i v rs)

pub value_rises : (i : ℕ) (v : Value) (rs : Values) → rows_rise name_order (value_at i v rs) ≡ rows_rise name_order rs
value_rises i v [] = refl
value_rises zero v (r ∷ rs) = refl
value_rises (suc i) v (r ∷ rs) =
    ap (λ b. b && rows_rise name_order (value_at i v rs)) (value_before r.0 i v rs) ∙ ap (λ b. is_before name_order r.0 rs && b) (value_rises i v rs)

-- ---- a row goes

pub removed_past : (i : ℕ) (rs : Values) → length rs ≤ i → remove rs i ≡ rs
removed_past i rs h =
    ap (λ qs. qs ++ drop (suc i) rs) (take_all i rs h) ∙ ap (λ qs. rs ++ qs) (drop_all (suc i) rs (omega arith)) ∙ append-nil rs

-- the one that was put between others
pub removed_back : (i : ℕ) (r : List ℕ × Value) (rs : Values) → i ≤ length rs → remove (take i rs ++ r ∷ drop i rs) i ≡ rs
removed_back zero r [] h = refl
removed_back (suc i) r [] h = absurd (omega arith)
removed_back zero r (q ∷ rs) h = refl
removed_back (suc i) r (q ∷ rs) h = ap (λ qs. q ∷ qs) (removed_back i r rs (omega arith))

removed_before : (k : List ℕ) (i : ℕ) (rs : Values) → is_before name_order k rs ≡ true → is_before name_order k (remove rs i) ≡ true
removed_before k zero [] h = refl
removed_before k (suc i) [] h = refl
removed_before k zero (r ∷ rs) h = (both _ _ h).1
removed_before k (suc i) (r ∷ rs) h =
    let p = both _ (is_before name_order k rs) h in
    and_from _ _ p.0 (removed_before k i rs p.1)

pub removed_rises : (i : ℕ) (rs : Values) → rows_rise name_order rs ≡ true → rows_rise name_order (remove rs i) ≡ true
removed_rises zero [] h = refl
removed_rises (suc i) [] h = refl
removed_rises zero (r ∷ rs) h = (both (is_before name_order r.0 rs) (rows_rise name_order rs) h).1
removed_rises (suc i) (r ∷ rs) h =
    let p = both (is_before name_order r.0 rs) (rows_rise name_order rs) h in
    and_from _ _ (removed_before r.0 i rs p.0) (removed_rises i rs p.1)
