-- The number that a single digit writes, and that which digits alone write.
use Rattle.std.proofs.Common.{◌≡◌, ℕ, ◌+◌, ◌*◌, ◌-◌, ◌^◌, ◌<◌, ◌≤◌, ◌==◌, refl, ap, sym, subst, ◌∙◌, arith, true, false, List, [], ◌∷◌, ◌++◌, length, take, get_or, Some, nat_lt, append-nil}
use Rattle.std.proofs.lemmas.Bool.{lt-ltb, ne_eqb}
use Rattle.std.proofs.lemmas.Int.Digits.{digits_more, digits_value_more}
use Rattle.std.proofs.lemmas.List.{length-take-le, take_all}
use Rattle.std.proofs.lemmas.Str.Parse.{digit_from_value, digits_value_short, numerals_by_value, tells_digits}
use Rattle.std.proofs.lemmas.Str.{digit_value_digit}
use Rattle.std.specs.Str.Parse.{AllDigits, IsNumeral, digits_value, without_leading_plus}
use Rattle.fast_float.specs.Text.{Parts, IsWellFormed, scan}
use Rattle.fast_float.proofs.Writing.{scan-text_of}
use Rattle.serde_json.specs.Data.{unsigned}
use Rattle.json_tape.proofs.Common.{number_of, number_from}

-- ---- digits alone

-- the numeral of a whole part alone
abbrev whole_alone : List ℕ → Parts
whole_alone ds = record { whole = ds; point = false; fraction = []; exponent_negative = false; exponent = []; len = length ds }

well_formed : (ds : List ℕ) → AllDigits 10 ds → IsWellFormed (whole_alone ds)
well_formed ds h = record { whole_digits = h; fraction_digits = tt; exponent_digits = tt; no_point = λ _. refl; no_exponent = λ _. refl; len_is = sym (ap length (append-nil ds)) }

scanned : (ds : List ℕ) → AllDigits 10 ds → scan ds ≡ whole_alone ds
scanned ds h = ap scan (sym (append-nil ds)) ∙ scan-text_of (whole_alone ds) (well_formed ds h)

-- digits that write a number of 64 bits are read as it
pub natural_number : (ds : List ℕ) → IsNumeral 10 ds → digits_value 10 ds < 2 ^ 64 → number_of ds ≡ Some (unsigned (digits_value 10 ds))
unfolding number_of
natural_number [] h small = absurd (omega (arith, h.0))
natural_number (d ∷ ds) h small =
    let digit = digit_from_value d h.1.0 in
    let s = d ∷ ds in
    let sign : (d == 45) ≡ false = ne_eqb d 45 (λ e. absurd (omega (arith, digit, e))) in
    let read : number_of s ≡ number_from false (scan s) = rw sign refl in
    let all : digits_value 10 (s ++ []) ≡ digits_value 10 s = ap (digits_value 10) (append-nil s) in
    let fits : nat_lt (digits_value 10 (s ++ [])) (2 ^ 64) ≡ true = ap (λ n. nat_lt n (2 ^ 64)) all ∙ lt-ltb _ (2 ^ 64) small in
    let some : nat_lt 0 (length s) ≡ true = lt-ltb 0 (length s) (omega arith) in
    let number : number_from false (whole_alone s) ≡ Some (unsigned (digits_value 10 (s ++ []))) = rw (some, fits) refl in
    read ∙ ap (number_from false) (scanned s h.1) ∙ number ∙ ap (λ n. Some (unsigned n)) all

pub single_digit : (xs : List ℕ) → length xs ≡ 1 → 48 ≤ get_or xs 0 0 → get_or xs 0 0 ≤ 57 → number_of xs ≡ Some (unsigned (get_or xs 0 0 - 48))
single_digit (d ∷ []) e low high =
    let value : digits_value 10 (d ∷ []) ≡ d - 48 = omega (arith, digit_value_digit d (low, high)) in
    natural_number (d ∷ []) (omega arith, (omega arith, tt)) (omega arith) ∙ ap (λ n. Some (unsigned n)) value
single_digit xs e low high = absurd (omega arith)

-- the same of a text that may begin with a plus, but does not
pub natural_alone : (ds : List ℕ) → 48 ≤ get_or ds 0 0 → (n : ℕ) → IsNumeral 10 (without_leading_plus ds) × (digits_value 10 (without_leading_plus ds) < 2 ^ 64) → n ≡ digits_value 10 (without_leading_plus ds)
    → number_of ds ≡ Some (unsigned n)
natural_alone ds digit n h e =
    let plus : (get_or ds 0 0 == 43) ≡ false = ne_eqb (get_or ds 0 0) 43 (λ e. absurd (omega (arith, digit, e))) in
    let same : without_leading_plus ds ≡ ds = rw plus refl in
    let p : IsNumeral 10 ds × (digits_value 10 ds < 2 ^ 64) = subst (λ xs. IsNumeral 10 xs × (digits_value 10 xs < 2 ^ 64)) same h in
    natural_number ds p.0 p.1 ∙ ap (λ xs. Some (unsigned (digits_value 10 xs))) (sym same) ∙ ap (λ n. Some (unsigned n)) (sym e)

-- ---- a few digits, one by one

few : (ds : List ℕ) → AllDigits 10 ds → length ds ≤ 9 → digits_value 10 ds < 10 ^ 9
few ds all short = digits_value_short (numerals_by_value (AllDigits 10) tells_digits) ds 9 all short

-- what the first of nine digits at most write is small
pub few_before : (ds : List ℕ) (at : ℕ) → at < length ds → length ds ≤ 9 → AllDigits 10 (take at ds) → digits_value 10 (take at ds) < 10 ^ 9
few_before ds at lt short all = few (take at ds) all (omega (arith, length-take-le at ds (omega (arith, lt)), lt, short))

-- one more is read
pub few_more : (ds : List ℕ) (at value : ℕ) → at < length ds → 48 ≤ get_or ds at 0 → get_or ds at 0 ≤ 57 → AllDigits 10 (take at ds) → value ≡ digits_value 10 (take at ds)
    → AllDigits 10 (take (at + 1) ds) × (value * 10 + (get_or ds at 0 - 48) ≡ digits_value 10 (take (at + 1) ds))
few_more ds at value lt low high all is =
    let digit = digit_value_digit (get_or ds at 0) (low, high) in
    (digits_more 10 ds at lt all (omega (arith, digit, high)), omega (arith, digits_value_more 10 ds at lt, is, digit))

-- all are read
pub few_done : (ds : List ℕ) (at value : ℕ) → 0 < length ds → length ds ≤ 9 → length ds ≤ at → AllDigits 10 (take at ds) → value ≡ digits_value 10 (take at ds)
    → number_of ds ≡ Some (unsigned value)
few_done ds at value some short le all is =
    let whole : take at ds ≡ ds = take_all at ds le in
    let digits : AllDigits 10 ds = subst (AllDigits 10) whole all in
    natural_number ds (some, digits) (omega (arith, few ds digits short)) ∙ ap (λ n. Some (unsigned n)) (sym (is ∙ ap (digits_value 10) whole))
