-- Moments of a run: what has ended stays so, and what a step's newline is.
use Rattle.std.proofs.Common.{◌≡◌, refl, sym, ap, ◌∙◌, subst, arith, ℕ, zero, suc, ◌+◌, ◌-◌, ◌≤◌, nat_le, length, Bool, true, false, true≢false, Option, Some, None}
use Rattle.std.proofs.lemmas.Bool.{cond_both, true_from_ne_false}
use Rattle.std.proofs.lemmas.Bool.Decides.{nat_tests}
use Rattle.ink_model.specs.Host.Bindings.{Bound}
use Rattle.ink_model.specs.Run.Line.{at_least, calls_in, goes_on, has_faulted, newline_in, open_in, page_at}
use Rattle.ink_model.specs.Text.Output.{is_line}
use Rattle.ink_model.specs.Run.Moments.{Moment, At, cut_off, next}
use Rattle.ink_model.specs.Story.Tree.{StoryTree}
use Rattle.ink_line.proofs.Opens.{open_is, shown_below}

pub both : {b : Bool} → b ≡ true → b ≡ false → ⊥
both t f = true≢false (sym t ∙ f)

pub some_same : (i k : ℕ) → Some i ≡ Some k → i ≡ k
some_same i k e = cc

-- ---- the newline of a step

least_is : (n : ℕ) (o : Option ℕ) (i : ℕ) → at_least n o ≡ Some i → (o ≡ Some i) × (n ≤ i)
least_is n None i e = cc
least_is n (Some k) i e = cond_both (nat_le n k) (Some k) None (λ o. o ≡ Some i → (Some k ≡ Some i) × (n ≤ i))
    (λ t h. (h, subst (λ j. n ≤ j) (some_same k i h) (grind (arith, nat_tests, t)))) (λ t h. cc) e

-- it is the open one, and none of the marks before
pub newline_is : (old new : Moment) (i : ℕ) → newline_in old new ≡ Some i → (open_in new ≡ Some i) × (length (page_at old).line ≤ i)
newline_is old new i e = cond_both (is_line (page_at new).sections) (at_least (length (page_at old).line) (open_in new)) None
    (λ o. o ≡ Some i → (open_in new ≡ Some i) × (length (page_at old).line ≤ i)) (λ _ h. least_is (length (page_at old).line) (open_in new) i h) (λ _ h. cc) e

-- while a newline stays open over a step, that step has none
pub no_other : (old new : Moment) (i k : ℕ) → open_in old ≡ Some i → open_in new ≡ Some i → newline_in old new ≡ Some k → ⊥
no_other old new i k before after e =
    let (there, behind) = newline_is old new k e in
    let same : i ≡ k = some_same i k (sym after ∙ there) in
    omega (arith, shown_below (page_at old).line i (open_is (page_at old).line i before).0, same, behind)

-- ---- ends

pub ended_or_faulted : (x : Moment) → goes_on x ≡ true → has_faulted x ≡ true → ⊥
ended_or_faulted (At c left made) g f = true≢false (sym f)
ended_or_faulted x g f = true≢false (sym g)

pub cut_ended : (x : Moment) → goes_on x ≡ false → cut_off x ≡ x
cut_ended (At c left made) e = absurd (true≢false e)
cut_ended x e = refl

module _ (s : StoryTree) (b : Bound) where
  pub calls_going : (x : Moment) → calls_in s b x ≡ true → goes_on x ≡ true
  calls_going (At c left made) e = refl
  calls_going x e = absurd (true≢false (sym e))

  next_stays : (x : Moment) → goes_on x ≡ false → next s b x ≡ x
  next_stays (At c left made) e = absurd (true≢false e)
  next_stays x e = refl

  module _ (m : ℕ → Moment) (runs : (n : ℕ) → m (suc n) ≡ next s b (m n)) where
    stays_by : (n d : ℕ) → goes_on (m n) ≡ false → m (d + n) ≡ m n
    stays_by n zero e = ap m (omega arith)
    stays_by n (suc d) e =
        let before = stays_by n d e in
        let same : suc d + n ≡ suc (d + n) = omega arith in
        ap m same ∙ (runs (d + n) ∙ (ap (next s b) before ∙ next_stays (m n) e))

    -- a run that has ended stays as it is
    pub stays : (n k : ℕ) → n ≤ k → goes_on (m n) ≡ false → m k ≡ m n
    stays n k le e = let same : k ≡ (k - n) + n = omega (arith, le) in ap m same ∙ stays_by n (k - n) e

    -- and one that goes on went on before
    pub went_on : (k n : ℕ) → k ≤ n → goes_on (m n) ≡ true → goes_on (m k) ≡ true
    went_on k n le g = true_from_ne_false (goes_on (m k)) (λ e. both g (ap goes_on (stays k n le e) ∙ e))
