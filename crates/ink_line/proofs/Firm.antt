-- A newline that is shown up to a step that makes it firm is firm.
use Rattle.std.proofs.Common.{◌≡◌, refl, subst, arith, ℕ, zero, suc, ◌+◌, ◌-◌, ◌<◌, ◌≤◌, inr, Bool, true, false, Some}
use Rattle.ink_model.specs.Host.Bindings.{Bound}
use Rattle.ink_model.specs.Run.Line.{IsFirm, MakesFirm, calls_in, goes_on, goes_past, newline_in, open_in, page_at, shows}
use Rattle.ink_model.specs.Run.Moments.{Moment, next}
use Rattle.ink_model.specs.Story.Tree.{StoryTree}
use Rattle.ink_line.proofs.Looks.{at_either, last_or_within}
use Rattle.ink_line.proofs.Moments.{newline_is, went_on}
use Rattle.ink_line.proofs.Opens.{is_open}

pub steps_to : (p n : ℕ) → p < n → (d : ℕ) × (d + suc p ≡ n)
steps_to p n l = (n - suc p, omega (arith, l))

module _ (s : StoryTree) (b : Bound) (limit : ℕ) (m : ℕ → Moment) (runs : (n : ℕ) → m (suc n) ≡ next s b (m n))
    (p newline until : ℕ) (has : newline_in (m p) (m (suc p)) ≡ Some newline) (later : p < until) (within : until ≤ limit) (going : goes_on (m until) ≡ true)
    (shown : (k : ℕ) → p < k → k ≤ until → shows (m k) newline ≡ true) (quiet : (k : ℕ) → p < k → k < until → calls_in s b (m k) ≡ false)
    (makes : MakesFirm s b limit m until newline) where
  abbrev OpenTo : ℕ → Type 0
  OpenTo k = (j : ℕ) → p < j → j ≤ k → open_in (m j) ≡ Some newline

  firm_at : (k : ℕ) → p < k → k ≤ until → OpenTo k → MakesFirm s b limit m k newline → IsFirm s b limit m p
  firm_at k l r opens by = record {
    until = k;
    within = omega (arith, r, within);
    opens = record {
      newline = newline;
      has = has;
      later = l;
      stays = opens;
      quiet = λ j x y. quiet j x (omega (arith, y, r));
      going = went_on s b m runs k until r going;
    };
    makes = by;
  }

  -- the first step after which a Text or Tag stands behind it, else the last one
  firm_from : (d k : ℕ) → d + k ≡ until → p < k → OpenTo k → IsFirm s b limit m p
  firm_from zero k e l opens = firm_at k l (omega (arith, e)) opens (let same : until ≡ k = omega (arith, e) in subst (λ j. MakesFirm s b limit m j newline) same makes)
  firm_from (suc d) k e l opens = by (goes_past (m (suc k)) newline) refl (firm_from d (suc k) (omega (arith, e)) (omega (arith, l)))
    where
      here : shows (m (suc k)) newline ≡ true
      here = shown (suc k) (omega (arith, l)) (omega (arith, e))

      by : (t : Bool) → goes_past (m (suc k)) newline ≡ t → (OpenTo (suc k) → IsFirm s b limit m p) → IsFirm s b limit m p
      by true t on = firm_at k l (omega (arith, e)) opens (inr (inr (inr (here, t))))
      by false t on = on (λ j x y. at_either (λ i. open_in (m i) ≡ Some newline) j (suc k) (last_or_within j k y) (opens j x) (is_open (page_at (m (suc k))).line newline here t))

  pub shown_is_firm : IsFirm s b limit m p
  shown_is_firm = let (d, e) = steps_to p until later in
      firm_from d (suc p) e (omega arith) (λ j x y. subst (λ i. open_in (m i) ≡ Some newline) (only j x y) (newline_is (m p) (m (suc p)) newline has).0)
    where
      only : (j : ℕ) → p < j → j ≤ suc p → suc p ≡ j
      only j x y = omega (arith, x, y)
