-- A line calls no turn function where a newline is shown.
use Rattle.std.proofs.Common.{◌≡◌, refl, subst, arith, ℕ, zero, suc, ◌+◌, ◌<◌, ◌≤◌, inl, inr, List, [], Bool, true, false, Option, Some}
use Rattle.ink_model.specs.Run.Configuration.{Configuration}
use Rattle.ink_model.specs.Host.Bindings.{Bound}
use Rattle.ink_model.specs.Run.Line.{IsFirm, IsLineOf, calls_in, newline_in, shows}
use Rattle.ink_model.specs.Run.Moments.{Moment, At, moment, next}
use Rattle.ink_model.specs.Story.Tree.{StoryTree}
use Rattle.ink_model.specs.declared.host.Given.{Given}
use Rattle.ink_line.specs.Laws.{IsOfLine}
use Rattle.ink_line.proofs.Firm.{shown_is_firm, steps_to}
use Rattle.ink_line.proofs.Found.{run_goes_on}
use Rattle.ink_line.proofs.Looks.{at_either, same_or_below}
use Rattle.ink_line.proofs.Moments.{calls_going}

module _ (s : StoryTree) (b : Bound) (limit : ℕ) (m : ℕ → Moment) (runs : (n : ℕ) → m (suc n) ≡ next s b (m n))
    (p newline n : ℕ) (has : newline_in (m p) (m (suc p)) ≡ Some newline) (within : n ≤ limit)
    (shown : (k : ℕ) → p < k → k ≤ n → shows (m k) newline ≡ true) (calls : calls_in s b (m n) ≡ true) where
  abbrev QuietTo : ℕ → Type 0
  QuietTo k = (j : ℕ) → p < j → j < k → calls_in s b (m j) ≡ false

  at_call : (k : ℕ) → p < k → k ≤ n → QuietTo k → calls_in s b (m k) ≡ true → IsFirm s b limit m p
  at_call k l r quiet e = shown_is_firm s b limit m runs p newline k has l (omega (arith, r, within)) (calls_going s b (m k) e)
      (λ j x y. shown j x (omega (arith, y, r))) quiet (inr (inl e))

  -- the first call makes it firm
  firm_from : (d k : ℕ) → d + k ≡ n → p < k → QuietTo k → IsFirm s b limit m p
  firm_from zero k e l quiet = at_call k l (omega (arith, e)) quiet (let same : n ≡ k = omega (arith, e) in subst (λ j. calls_in s b (m j) ≡ true) same calls)
  firm_from (suc d) k e l quiet = by (calls_in s b (m k)) refl (firm_from d (suc k) (omega (arith, e)) (omega (arith, l)))
    where
      by : (t : Bool) → calls_in s b (m k) ≡ t → (QuietTo (suc k) → IsFirm s b limit m p) → IsFirm s b limit m p
      by true t on = at_call k l (omega (arith, e)) quiet t
      by false t on = on (λ j x y. at_either (λ i. calls_in s b (m i) ≡ false) j k (same_or_below j k y) (quiet j x) t)

  pub firm_by_call : p < n → IsFirm s b limit m p
  firm_by_call l = let (d, e) = steps_to p n l in firm_from d (suc p) e (omega arith) (λ j x y. absurd (omega (arith, x, y)))

pub calls_alone : (s : StoryTree) (b : Bound) (limit : ℕ) (c : Configuration) (answers : List (Option Given)) (x : Moment) (h : IsLineOf s b limit (moment s b c answers) x)
    → (n : ℕ) → IsOfLine h n → calls_in s b (moment s b c answers n) ≡ true
    → (p newline : ℕ) → p < n → newline_in (moment s b c answers p) (moment s b c answers (suc p)) ≡ Some newline
    → ((k : ℕ) → p < k → k ≤ n → shows (moment s b c answers k) newline ≡ true) → ⊥
calls_alone s b limit c answers x (inl h) n of calls p newline l has shown =
    h.first p (omega (arith, l, of))
    (firm_by_call s b limit (moment s b c answers) (λ k. run_goes_on s b k (At c answers [])) p newline n has (omega (arith, of, h.firm.opens.later, h.firm.within)) shown calls l)
calls_alone s b limit c answers x (inr h) n of calls p newline l has shown =
    h.none p (firm_by_call s b limit (moment s b c answers) (λ k. run_goes_on s b k (At c answers [])) p newline n has (omega (arith, of)) shown calls l)
