-- The ends of a text whose bytes pass a test: as parts of the text at places, and where the text may be cut there.
use Rattle.std.proofs.Common.{◌≡◌, ℕ, zero, suc, ◌+◌, ◌-◌, ◌<◌, ◌≤◌, Bool, true, false, cond, eqb, List, [], ◌∷◌, ◌++◌, reverse, length, get_or, take, drop, refl, sym, ap, ◌∙◌, arith, inl, inr}
use Rattle.std.specs.List.{prefix_len, suffix_len}
use Rattle.std.specs.Str.{IsUtf8, IsCharBoundary}
use Rattle.std.proofs.lemmas.Bool.{cases_lt, eqb-true, or_cases}
use Rattle.std.proofs.lemmas.List.{take_at, drop_at, length-drop, length-reverse, reverse-append, reverse-reverse, take-append-drop, get_or-reverse}
use Rattle.std.proofs.lemmas.List.Sums.{prefix_len-le-length, suffix_len-le-length, prefix_len_passes}
use Rattle.std.proofs.lemmas.Str.{IsCharBoundary-start, IsCharBoundary-end, IsCharBoundary-before_ascii, IsCharBoundary-after_ascii}
use Rattle.std.proofs.Math.Numerals.{one-add, add-one}
use Rattle.ink_model.specs.Text.Bytes.{is_blank, leading, without, trailing, trimmed}

-- ---- the ends as parts

pub leading_is : (test : ℕ → Bool) (cs : List ℕ) → leading test cs ≡ take (prefix_len test cs) cs
leading_is test [] = refl
leading_is test (c ∷ cs) =
    elim (test c) as (λ b. cond b (c ∷ leading test cs) [] ≡ take (cond b (1 + prefix_len test cs) 0) (c ∷ cs))
    [ true ↦ rw one-add (ap (λ ds. c ∷ ds) (leading_is test cs)) | false ↦ refl ]

pub without_is : (test : ℕ → Bool) (cs : List ℕ) → without test cs ≡ drop (prefix_len test cs) cs
without_is test [] = refl
without_is test (c ∷ cs) =
    elim (test c) as (λ b. cond b (without test cs) (c ∷ cs) ≡ drop (cond b (1 + prefix_len test cs) 0) (c ∷ cs))
    [ true ↦ rw one-add (without_is test cs) | false ↦ refl ]

-- a list turned round, by its parts
turned : (cs : List ℕ) (n : ℕ) → reverse cs ≡ reverse (drop n cs) ++ reverse (take n cs)
turned cs n = ap reverse (sym (take-append-drop n cs)) ∙ reverse-append (take n cs) (drop n cs)

turned_length : (cs : List ℕ) (k : ℕ) → k ≤ length cs → length (reverse (drop (length cs - k) cs)) ≡ k
turned_length cs k h = length-reverse (drop (length cs - k) cs) ∙ length-drop (length cs - k) cs ∙ omega arith

turned_take : (cs : List ℕ) (k : ℕ) → k ≤ length cs → reverse (take k (reverse cs)) ≡ drop (length cs - k) cs
turned_take cs k h =
    ap (λ ds. reverse (take k ds)) (turned cs (length cs - k))
    ∙ ap reverse (take_at (reverse (drop (length cs - k) cs)) (reverse (take (length cs - k) cs)) k (turned_length cs k h))
    ∙ reverse-reverse (drop (length cs - k) cs)

turned_drop : (cs : List ℕ) (k : ℕ) → k ≤ length cs → reverse (drop k (reverse cs)) ≡ take (length cs - k) cs
turned_drop cs k h =
    ap (λ ds. reverse (drop k ds)) (turned cs (length cs - k))
    ∙ ap reverse (drop_at (reverse (drop (length cs - k) cs)) (reverse (take (length cs - k) cs)) k (turned_length cs k h))
    ∙ reverse-reverse (take (length cs - k) cs)

pub trailing_is : (test : ℕ → Bool) (cs : List ℕ) → trailing test cs ≡ drop (length cs - suffix_len test cs) cs
trailing_is test cs = ap reverse (leading_is test (reverse cs)) ∙ turned_take cs (suffix_len test cs) (suffix_len-le-length test cs)

pub trimmed_is : (test : ℕ → Bool) (cs : List ℕ) → trimmed test cs ≡ take (length cs - suffix_len test cs) cs
trimmed_is test cs = ap reverse (without_is test (reverse cs)) ∙ turned_drop cs (suffix_len test cs) (suffix_len-le-length test cs)

-- ---- where a text may be cut

pub blank_ascii : (c : ℕ) → is_blank c ≡ true → c < 128
blank_ascii c e = elim (or_cases (eqb c 32) (eqb c 9) e) [ inl h ↦ omega (arith, eqb-true c 32 h) | inr h ↦ omega (arith, eqb-true c 9 h) ]

module _ (test : ℕ → Bool) (ascii : (c : ℕ) → test c ≡ true → c < 128) where
  ascii_at_start : (cs : List ℕ) (i : ℕ) → i < prefix_len test cs → get_or cs i 0 < 128
  ascii_at_start cs i h = ascii (get_or cs i 0) (prefix_len_passes test cs i 0 h)

  ascii_at_end : (cs : List ℕ) (i : ℕ) → length cs - suffix_len test cs ≤ i → i < length cs → get_or cs i 0 < 128
  ascii_at_end cs i h l =
      let passes = ascii_at_start (reverse cs) (length cs - 1 - i) (omega arith) in
      let turned : get_or (reverse cs) (length cs - 1 - i) 0 ≡ get_or cs i 0 =
      get_or-reverse cs (length cs - 1 - i) 0 (omega arith) ∙ ap (λ n. get_or cs n 0) (omega arith) in
      omega arith

  pub cut_at_start : (cs : List ℕ) (i : ℕ) → IsUtf8 cs → i ≤ prefix_len test cs → IsCharBoundary cs i
  cut_at_start cs zero u h = IsCharBoundary-start cs u
  cut_at_start cs (suc i) u h =
      rw (sym (add-one i))
      (IsCharBoundary-after_ascii cs i u (omega (arith, prefix_len-le-length test cs)) (ascii_at_start cs i (omega arith)))

  pub cut_at_end : (cs : List ℕ) (i : ℕ) → length cs - suffix_len test cs ≤ i → i ≤ length cs → IsCharBoundary cs i
  cut_at_end cs i h l =
      elim (cases_lt i (length cs)) [
        | inl m ↦ IsCharBoundary-before_ascii cs i m (ascii_at_end cs i h m)
        | inr m ↦ let e : i ≡ length cs = omega arith in rw e (IsCharBoundary-end cs)
      ]
