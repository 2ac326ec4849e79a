-- The index at which nothing stands, looked for from the first on.
use Rattle.std.proofs.Common.{◌≡◌, ◌∙◌, ◌+◌, ap, arith, refl, subst, true, false, ℕ, suc, List, [], ◌∷◌, is_some, unwrap_or, Option, Some, None, String, Global}
use Rattle.std.specs.Option.{option_map}
use Rattle.ink_flows.specs.Standing.{CurrentAt, hole_in, parts_of, rows_of, shown_rows}
use Rattle.ink_flows.specs.declared.flow.Flow.{Flow}
use Rattle.ink_model.specs.Run.Flows.{holes}

pub hole_start : (os : List (Option Flow)) → hole_in os ≡ option_map (λ n. 0 + n) (hole_in os)
hole_start os = by (hole_in os)
  where
    by : (o : Option ℕ) → o ≡ option_map (λ n. 0 + n) o
    by None = refl
    by (Some n) = let same : n ≡ 0 + n = omega arith in ap (λ m. Some m) same

pub hole_here : (o : Option Flow) (os : List (Option Flow)) (k : ℕ) (x : Option ℕ) → is_some o ≡ false → x ≡ option_map (λ n. k + n) (hole_in (o ∷ os)) → x ≡ Some k
hole_here None os k x h e = let same : k + 0 ≡ k = omega arith in e ∙ ap (λ n. Some n) same
hole_here (Some f) os k x h e = absurd (cc)

pub hole_later : (o : Option Flow) (os : List (Option Flow)) (k : ℕ) (x : Option ℕ) → is_some o ≡ true → x ≡ option_map (λ n. k + n) (hole_in (o ∷ os)) → x ≡ option_map (λ n. k + 1 + n) (hole_in os)
hole_later None os k x h e = absurd (cc)
hole_later (Some f) os k x h e = e ∙ by (hole_in os)
  where
    by : (o : Option ℕ) → option_map (λ n. k + n) (option_map suc o) ≡ option_map (λ n. k + 1 + n) o
    by None = refl
    by (Some n) = let same : k + suc n ≡ k + 1 + n = omega arith in ap (λ m. Some m) same

-- one name has nothing, and it is found
pub hole_current : (es : List (String Global × Option Flow)) (i : ℕ) → holes (rows_of es) ≡ 1 → hole_in (parts_of es) ≡ Some i → CurrentAt i (rows_of es)
hole_current [] i h k = absurd (cc)
hole_current ((n, None) ∷ es) i h k = let none : holes (rows_of es) ≡ 0 = omega arith in let first : 0 ≡ i = cc in subst (λ j. CurrentAt j (rows_of ((n, None) ∷ es))) first (refl, none)
hole_current ((n, Some f) ∷ es) i h k = by (hole_in (parts_of es)) refl k (λ j. hole_current es j h)
  where
    by : (o : Option ℕ) → hole_in (parts_of es) ≡ o → option_map suc o ≡ Some i → ((j : ℕ) → hole_in (parts_of es) ≡ Some j → CurrentAt j (rows_of es)) → CurrentAt i (rows_of ((n, Some f) ∷ es))
    by None is k more = absurd (cc)
    by (Some j) is k more = let next : suc j ≡ i = cc in subst (λ j. CurrentAt j (rows_of ((n, Some f) ∷ es))) next (refl, more j is)

pub hole_there : (es : List (String Global × Option Flow)) → holes (rows_of es) ≡ 1 → hole_in (parts_of es) ≡ None → ⊥
hole_there [] h k = cc
hole_there ((n, None) ∷ es) h k = cc
hole_there ((n, Some f) ∷ es) h k = by (hole_in (parts_of es)) refl k (hole_there es h)
  where
    by : (o : Option ℕ) → hole_in (parts_of es) ≡ o → option_map suc o ≡ None → (hole_in (parts_of es) ≡ None → ⊥) → ⊥
    by None is k more = more is
    by (Some j) is k more = cc

pub hole_or : (es : List (String Global × Option Flow)) → holes (rows_of es) ≡ 1 → CurrentAt (unwrap_or (hole_in (parts_of es)) 0) (shown_rows es)
hole_or [] h = absurd (cc)
hole_or (e ∷ es) h = by (hole_in (parts_of (e ∷ es))) refl
  where
    by : (o : Option ℕ) → hole_in (parts_of (e ∷ es)) ≡ o → CurrentAt (unwrap_or o 0) (rows_of (e ∷ es))
    by None is = absurd (hole_there (e ∷ es) h is)
    by (Some i) is = hole_current (e ∷ es) i h is
