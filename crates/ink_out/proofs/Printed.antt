-- What is printed of a number or a truth value is one text, cut nowhere.
use Rattle.std.proofs.Common.{◌≡◌, ℕ, suc, ◌<◌, ◌≤◌, Bool, eqb, true, false, List, [], ◌∷◌, reverse, ℤ, pos, negsuc, length, refl, sym, ap, ◌∙◌, arith, w32}
use Rattle.std.specs.Fmt.{decimal, signed_decimal}
use Rattle.ink_out.proofs.Common.{list_any, list_any-IsPermutation, IsPermutation-reverse, cut, piece, Text}
use Rattle.std.specs.Prelude.{FitsSigned}
use Rattle.std.proofs.lemmas.Bool.{ne_eqb, or_parts}
use Rattle.std.proofs.lemmas.Fmt.{decimal_is_IsNumeral}
use Rattle.std.proofs.lemmas.Int.{ints}
use Rattle.std.proofs.lemmas.Str.Parse.{digit_from_value}
use Rattle.std.specs.Str.Parse.{AllDigits}
use Rattle.ink_model.specs.Text.Bytes.{is_blank, is_white, leading, trailing}
use Rattle.ink_model.specs.Values.Value.{truth_text}
use Rattle.ink_out.proofs.Noting.{whole_cut}

-- ---- a text without blanks and newlines

abbrev IsWhole : List ℕ → Type 0
IsWhole cs = list_any is_white cs ≡ false

none_leading : (cs : List ℕ) → IsWhole cs → leading is_white cs ≡ []
none_leading [] whole = refl
none_leading (c ∷ cs) whole = rw (or_parts (is_white c) (list_any is_white cs) whole).0 refl

turned : (cs : List ℕ) → IsWhole cs → IsWhole (reverse cs)
turned cs whole = sym (list_any-IsPermutation is_white cs (reverse cs) (IsPermutation-reverse cs)) ∙ whole

none_trailing : (cs : List ℕ) → IsWhole cs → trailing is_white cs ≡ []
none_trailing cs whole = ap reverse (none_leading (reverse cs) (turned cs whole))

whole_piece : (cs : List ℕ) → 0 < length cs → IsWhole cs → piece cs ≡ Text cs ∷ []
whole_piece [] some whole = absurd (omega arith)
whole_piece (c ∷ cs) some whole =
    let filled = (or_parts (is_white c) (list_any is_white cs) whole).0 in
    rw (or_parts (is_blank c) (eqb c 10) filled).0 refl

whole_text : (cs : List ℕ) → 0 < length cs → IsWhole cs → cut cs ≡ Text cs ∷ []
whole_text cs some whole = whole_cut cs (rw (none_leading cs whole, none_trailing cs whole) refl) ∙ whole_piece cs some whole

-- ---- numbers

digit_filled : (c : ℕ) → 48 ≤ c → is_white c ≡ false
digit_filled c low = rw (ne_eqb c 32 (λ e. omega (arith, e, low)), ne_eqb c 9 (λ e. omega (arith, e, low)), ne_eqb c 10 (λ e. omega (arith, e, low))) refl

digits_whole : (ds : List ℕ) → AllDigits 10 ds → IsWhole ds
digits_whole [] d = refl
digits_whole (c ∷ cs) d = rw (digit_filled c (omega (arith, digit_from_value c d.0))) (digits_whole cs d.1)

pub number_cut : (z : ℤ) → FitsSigned w32 z → cut (signed_decimal z) ≡ Text (signed_decimal z) ∷ []
number_cut (pos n) small =
    let numeral = (decimal_is_IsNumeral n (omega (arith, ints))).0 in
    whole_text (decimal n) numeral.0 (digits_whole (decimal n) numeral.1)
number_cut (negsuc n) small =
    let numeral = (decimal_is_IsNumeral (suc n) (omega (arith, ints))).0 in
    whole_text (45 ∷ decimal (suc n)) (omega arith) (digits_whole (decimal (suc n)) numeral.1)

-- ---- truth values

pub truth_cut : (b : Bool) → cut (truth_text b) ≡ Text (truth_text b) ∷ []
truth_cut true = whole_text (truth_text true) (omega arith) refl
truth_cut false = whole_text (truth_text false) (omega arith) refl
