-- Rows that rise one after another.
use Rattle.std.proofs.Common.{◌≡◌, ◌∙◌, ◌&&◌, ℕ, List, [], ◌∷◌, Bool, true, false, Some, None, is_lt, sym, ap, refl}
use Rattle.ink_frames.proofs.Common.{is_before, name_order, rows_rise, Values}
use Rattle.ink_frames.proofs.Rises.{before_more, is_less}
use Rattle.ink_frames.specs.Saving.{rise_after}

-- what comes before the first of rows that rise comes before all of them
first_is_enough : (first before all rest : Bool) → (first ≡ true → all ≡ true → before ≡ true) → (first && (all && rest)) ≡ ((first && before) && (all && rest))
first_is_enough false before all rest so = refl
first_is_enough true true all rest so = refl
first_is_enough true false true rest so = ap (λ b. b && rest) (sym (so refl refl))
first_is_enough true false false rest so = refl

after_is : (k : List ℕ) (rs : Values) → rise_after (Some k) rs ≡ (is_before name_order k rs && rows_rise name_order rs)
after_is k [] = refl
after_is k (r ∷ rs) =
    ap (λ b. is_lt (name_order k r.0) && b) (after_is r.0 rs)
    ∙ first_is_enough (is_lt (name_order k r.0)) (is_before name_order k rs) (is_before name_order r.0 rs) (rows_rise name_order rs)
    (λ e h. before_more k r.0 rs (is_less _ e) h)

pub rise_one_by_one : (rs : Values) → rise_after None rs ≡ rows_rise name_order rs
rise_one_by_one [] = refl
rise_one_by_one (r ∷ rs) = after_is r.0 rs
