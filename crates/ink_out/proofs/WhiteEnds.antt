-- A text's white ends: whether they hold a newline, and what is cut off there.
use Rattle.std.proofs.Common.{◌≡◌, ℕ, ◌+◌, ◌-◌, ◌<◌, ◌≤◌, true, false, ◌||◌, cond, eqb, List, [], ◌∷◌, ◌++◌, reverse, length, get_or, take, drop, refl, sym, ap, ◌∙◌, arith, inl, inr}
use Rattle.ink_out.proofs.Common.{prefix_len, suffix_len, list_any-IsPermutation, IsPermutation-reverse}
use Rattle.std.proofs.lemmas.Bool.{eqb-true, or_cases, cases_Bool}
use Rattle.std.proofs.lemmas.List.{length-take-le, length-reverse, take-append-drop, drop-append-le, get_or-reverse, get_or_past}
use Rattle.std.proofs.lemmas.List.Sums.{prefix_len-le-length}
use Rattle.std.proofs.Math.Numerals.{one-add}
use Rattle.std.proofs.Math.Seq.{take-add}
use Rattle.ink_model.proofs.Ends.{blank_ascii, leading_is, trailing_is, trimmed_is, without_is}
use Rattle.ink_model.specs.Text.Bytes.{has_newline, is_blank, is_newline, is_white, leading, trailing, trimmed, without}

-- ---- whether the white there holds a newline

pub blank_no_newline : (c : ℕ) → is_blank c ≡ true → eqb c 10 ≡ false
blank_no_newline c e =
    elim (or_cases (eqb c 32) (eqb c 9) e) [ inl h ↦ rw (eqb-true c 32 h) refl | inr h ↦ rw (eqb-true c 9 h) refl ]

-- it does where a newline follows the blanks
pub start_has : (cs : List ℕ) → has_newline (leading is_white cs) ≡ eqb (get_or cs (prefix_len is_blank cs) 0) 10
start_has [] = refl
start_has (c ∷ cs) =
    elim (cases_Bool (is_blank c)) [
      | inl e ↦ rw (e, blank_no_newline c e, one-add) (start_has cs)
      | inr e ↦ rw e (elim (cases_Bool (eqb c 10)) [ inl h ↦ rw h (rw h refl) | inr h ↦ rw h refl ])
    ]

has_newline-reverse : (cs : List ℕ) → has_newline (reverse cs) ≡ has_newline cs
has_newline-reverse cs = sym (list_any-IsPermutation is_newline cs (reverse cs) (IsPermutation-reverse cs))

end_has : (cs : List ℕ) → has_newline (trailing is_white cs) ≡ eqb (get_or (reverse cs) (suffix_len is_blank cs) 0) 10
end_has cs = has_newline-reverse (leading is_white (reverse cs)) ∙ start_has (reverse cs)

-- a list turned round has at k what stands before the last k elements
turned_at : (cs : List ℕ) (k : ℕ) → k < length cs → get_or (reverse cs) k 0 ≡ get_or cs (length cs - k - 1) 0
turned_at cs k h = get_or-reverse cs k 0 h ∙ ap (λ n. get_or cs n 0) (omega arith)

-- it does where a newline stands before the blanks
pub end_found : (cs : List ℕ) → suffix_len is_blank cs < length cs → has_newline (trailing is_white cs) ≡ eqb (get_or cs (length cs - suffix_len is_blank cs - 1) 0) 10
end_found cs h = end_has cs ∙ ap (λ c. eqb c 10) (turned_at cs (suffix_len is_blank cs) h)

-- and not in blanks alone
pub end_none : (cs : List ℕ) → length cs ≤ suffix_len is_blank cs → has_newline (trailing is_white cs) ≡ false
end_none cs h = end_has cs ∙ ap (λ c. eqb c 10) (get_or_past (reverse cs) (suffix_len is_blank cs) 0 (omega (arith, length-reverse cs)))

-- ---- where a text may be cut

pub white_ascii : (c : ℕ) → is_white c ≡ true → c < 128
white_ascii c e = elim (or_cases (is_blank c) (eqb c 10) e) [ inl h ↦ blank_ascii c h | inr h ↦ omega (arith, eqb-true c 10 h) ]

pub blanks_le_white : (cs : List ℕ) → prefix_len is_blank cs ≤ prefix_len is_white cs
blanks_le_white [] = omega arith
blanks_le_white (c ∷ cs) =
    elim (is_blank c) as (λ b. cond b (1 + prefix_len is_blank cs) 0 ≤ cond (b || eqb c 10) (1 + prefix_len is_white cs) 0)
    [ true ↦ omega (arith, blanks_le_white cs) | false ↦ omega arith ]

-- ---- what is cut off

after_last : (front back : List ℕ) → drop (length front - suffix_len is_blank front) (front ++ back) ≡ trailing is_blank front ++ back
after_last front back =
    drop-append-le (length front - suffix_len is_blank front) front back (omega arith)
    ∙ ap (λ cs. cs ++ back) (sym (trailing_is is_blank front))

pub start_after : (cs : List ℕ) → drop (prefix_len is_white cs - suffix_len is_blank (take (prefix_len is_white cs) cs)) cs ≡ trailing is_blank (leading is_white cs) ++ without is_white cs
start_after cs =
    let long = length-take-le (prefix_len is_white cs) cs (prefix_len-le-length is_white cs) in
    let e = rw (long, take-append-drop (prefix_len is_white cs) cs) at (after_last (take (prefix_len is_white cs) cs) (drop (prefix_len is_white cs) cs)) in
    rw (leading_is is_white cs, without_is is_white cs) e

pub end_before : (cs : List ℕ) → take (length cs - suffix_len is_white cs + prefix_len is_blank (drop (length cs - suffix_len is_white cs) cs)) cs ≡ trimmed is_white cs ++ leading is_blank (trailing is_white cs)
end_before cs =
    rw (trimmed_is, trailing_is, leading_is) (take-add (length cs - suffix_len is_white cs) (prefix_len is_blank (drop (length cs - suffix_len is_white cs) cs)) cs)
