-- A text stands in another where it stands between two.
use Rattle.std.proofs.Common.{◌≡◌, Bool, ℕ, List, [], ◌∷◌, ◌++◌, ◌||◌, true, false, refl, sym, arith, ap, ◌∙◌, None}
use Rattle.std.specs.Bool.{MatchBool}
use Rattle.std.specs.Str.Pattern.{HasMatch, FindsText}
use Rattle.std.specs.Str.Iter.{HasSubslice}
use Rattle.std.proofs.lemmas.Grind.{common_steps}
use Rattle.std.proofs.lemmas.Str.Pattern.{contains_text}
use Rattle.ink_model.specs.Text.Bytes.{begins_with, has}

begins_over : (n b : List ℕ) → begins_with (n ++ b) n ≡ true
begins_over [] b = refl
begins_over (d ∷ ds) b = grind (arith, common_steps, begins_over ds b)

begins_to : (s n : List ℕ) → begins_with s n ≡ true → (b : List ℕ) × (s ≡ n ++ b)
begins_to s [] h = (s, refl)
begins_to [] (d ∷ ds) h = absurd (cc)
begins_to (c ∷ cs) (d ∷ ds) h =
    let same : c ≡ d = grind (arith, common_steps, h) in
    let rest : begins_with cs ds ≡ true = grind (arith, common_steps, h) in
    let found : (b : List ℕ) × (cs ≡ ds ++ b) = begins_to cs ds rest in
    (found.0, ap (λ x. x ∷ cs) same ∙ ap (λ xs. d ∷ xs) found.1)

has_over : (a n b : List ℕ) → has (a ++ (n ++ b)) n ≡ true
has_over [] [] [] = refl
has_over [] [] (c ∷ cs) = refl
has_over [] (d ∷ ds) b = grind (arith, common_steps, begins_over (d ∷ ds) b)
has_over (c ∷ cs) n b = grind (arith, common_steps, has_over cs n b)

has_to : (s n : List ℕ) → has s n ≡ true → HasSubslice s n
has_to [] [] h = ([], [], refl)
has_to [] (d ∷ ds) h = absurd (cc)
has_to (c ∷ cs) n h =
    elim (begins_with (c ∷ cs) n) as (λ v. begins_with (c ∷ cs) n ≡ v → v || has cs n ≡ true → HasSubslice (c ∷ cs) n) [
      | true ↦ λ e f. let found = begins_to (c ∷ cs) n e in ([], found.0, found.1)
      | false ↦ λ e f. let found = has_to cs n f in (c ∷ found.0, found.1, ap (λ xs. c ∷ xs) found.2)
    ] refl h

pub has_from_contains : (r : Bool) (s n : List ℕ) → MatchBool r (HasMatch (FindsText n) s) (FindsText n s None) → r ≡ has s n
has_from_contains true s n h =
    let found = (contains_text true n s h).0 refl in
    rw found.2 (sym (has_over found.0 n found.1))
has_from_contains false s n h =
    elim (has s n) as (λ v. has s n ≡ v → false ≡ v) [
      | true ↦ λ e. (contains_text false n s h).1 (has_to s n e)
      | false ↦ λ e. refl
    ] refl
