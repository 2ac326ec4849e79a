-- Two texts that are joined.
use Rattle.std.proofs.Common.{◌≡◌, ◌≢◌, ◌∙◌, ℕ, List, [], ◌∷◌, ◌++◌, ◌+◌, ◌≤◌, ◌==◌, length, true, false, Ok, ap, arith, refl, sym}
use Rattle.std.proofs.lemmas.Bool.{true≢false}
use Rattle.std.proofs.lemmas.Bool.Decides.{Decides-eqb, nat_tests}
use Rattle.std.proofs.lemmas.List.{append-nil, length-append}
use Rattle.ink_model.specs.Text.Bytes.{fits_text}
use Rattle.ink_model.specs.Values.Operator.{joined_text}
use Rattle.ink_model.specs.declared.limits.TheConstants.{MAX_TEXT}
use Rattle.ink_model.specs.declared.value.Value.TheVariants.{Text}

fits : (t : List ℕ) → length t ≤ MAX_TEXT → fits_text t ≡ true
fits t few = grind (arith, nat_tests)

pub both_fit : (s t : List ℕ) → length s + length t ≤ MAX_TEXT → fits_text (s ++ t) ≡ true
both_fit s t few = fits (s ++ t) (omega (arith, few, length-append s t))

text_of : (t u : List ℕ) → fits_text t ≡ true → u ≡ t → joined_text t ≡ Ok (Text u)
text_of t u fit same = rw (fit, same) refl

pub joins_both : (s t u : List ℕ) → length s + length t ≤ MAX_TEXT → u ≡ s ++ t → joined_text (s ++ t) ≡ Ok (Text u)
joins_both s t u few same = text_of (s ++ t) u (both_fit s t few) same

-- the request was not for a text that is too long
pub not_long : (s t : List ℕ) → length s + length t ≤ MAX_TEXT → fits_text (s ++ t) ≢ false
not_long s t few long = true≢false (sym (both_fit s t few) ∙ long)

-- ---- a text beside an empty one

pub is_empty : (t : List ℕ) → (length t == 0) ≡ true → t ≡ []
is_empty [] h = refl
is_empty (x ∷ xs) h = absurd (omega (arith, (Decides-eqb (length (x ∷ xs)) 0).0 h))

pub with_none : (s t : List ℕ) → t ≡ [] → s ++ t ≡ s
with_none s t none = ap (λ xs. s ++ xs) none ∙ append-nil s

pub with_none_before : (s t : List ℕ) → s ≡ [] → s ++ t ≡ t
with_none_before s t none = ap (λ xs. xs ++ t) none

pub joins_one : (s t one u : List ℕ) → s ++ t ≡ one → length one ≤ MAX_TEXT → u ≡ one → joined_text (s ++ t) ≡ Ok (Text u)
joins_one s t one u alone few same = ap joined_text alone ∙ text_of one u (fits one few) same

pub one_fits : (s t one : List ℕ) → s ++ t ≡ one → length one ≤ MAX_TEXT → fits_text (s ++ t) ≢ false
one_fits s t one alone few long = true≢false (sym (fits one few) ∙ sym (ap fits_text alone) ∙ long)
