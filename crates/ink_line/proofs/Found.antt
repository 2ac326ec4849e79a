-- Searches of runs from a configuration.
use Rattle.std.proofs.Common.{◌≡◌, refl, sym, ap, ◌∙◌, subst, arith, ℕ, zero, suc, ◌+◌, ◌-◌, ◌≤◌, List, [], true, Option}
use Rattle.ink_model.specs.Run.Configuration.{Configuration}
use Rattle.ink_model.specs.Host.Bindings.{Bound}
use Rattle.ink_model.specs.Run.Line.{IsLineOf, goes_on}
use Rattle.ink_model.specs.Run.Moments.{Moment, At, moment, next, run}
use Rattle.ink_model.specs.Story.Tree.{StoryTree}
use Rattle.ink_model.specs.declared.host.Given.{Given}
use Rattle.ink_line.specs.Look.{Knows, Over, Search, Seeking, found, look_on, search}
use Rattle.ink_line.proofs.Looks.{found_is, search_knows}

module _ (s : StoryTree) (b : Bound) where
  pub run_begins : (x : Moment) → run s b zero x ≡ x
  unfolding run
  run_begins x = refl

  pub run_goes_on : (n : ℕ) (x : Moment) → run s b (suc n) x ≡ next s b (run s b n x)
  unfolding run
  run_goes_on n x = refl

  module _ (limit : ℕ) (c : Configuration) (answers : List (Option Given)) where
    pub knows : (n : ℕ) → n ≤ limit → Knows s b limit (moment s b c answers) n (search s b n (Seeking (At c answers [])))
    knows n le =
        let start = run_begins (At c answers []) in
        subst (λ x. Knows s b limit (moment s b c answers) n (search s b n (Seeking x))) start
        (search_knows s b limit (moment s b c answers) (λ k. run_goes_on k (At c answers [])) (subst (λ x. goes_on x ≡ true) (sym start) refl) n le)

    -- a search comes to the line
    pub finds : IsLineOf s b limit (moment s b c answers) (found (search s b limit (Seeking (At c answers []))))
    finds = found_is s b limit (moment s b c answers) (λ k. run_goes_on k (At c answers [])) (search s b limit (Seeking (At c answers []))) (knows limit (omega arith))

-- ---- a search that is over

module _ (s : StoryTree) (b : Bound) (x : Search) (end : Moment) where
  stays_over : (d n : ℕ) → search s b n x ≡ Over end → search s b (d + n) x ≡ Over end
  unfolding search
  stays_over zero n e = let same : 0 + n ≡ n = omega arith in ap (λ k. search s b k x) same ∙ e
  stays_over (suc d) n e = let same : suc d + n ≡ suc (d + n) = omega arith in ap (λ k. search s b k x) same ∙ ap (look_on s b) (stays_over d n e)

  over_at : (n limit : ℕ) → n ≤ limit → search s b n x ≡ Over end → search s b limit x ≡ Over end
  over_at n limit le e = let same : limit ≡ (limit - n) + n = omega (arith, le) in ap (λ k. search s b k x) same ∙ stays_over (limit - n) n e

pub over_is : (s : StoryTree) (b : Bound) (limit : ℕ) (c : Configuration) (answers : List (Option Given)) (n : ℕ) (x : Moment) → n ≤ limit
    → search s b n (Seeking (At c answers [])) ≡ Over x → IsLineOf s b limit (moment s b c answers) x
over_is s b limit c answers n x le e =
    subst (IsLineOf s b limit (moment s b c answers)) (ap found (over_at s b (Seeking (At c answers [])) x n limit le e)) (finds s b limit c answers)
