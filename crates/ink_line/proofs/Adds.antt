-- A step only adds marks to the line, so that what stands behind an open newline after a step was written in it.
use Rattle.std.proofs.Common.{◌≡◌, ◌∙◌, refl, sym, ap, append_assoc, append-nil, ◌++◌, ◌||◌, ◌<◌, ℕ, suc, false, drop, length, List, [], ◌∷◌, Option, Some, arith}
use Rattle.std.proofs.lemmas.List.{drop-append-le, drop_at, drop_all}
use Rattle.ink_model.specs.Run.Configuration.{Configuration}
use Rattle.ink_model.specs.Host.Bindings.{Bound}
use Rattle.ink_model.specs.Run.Line.{goes_past, page_at}
use Rattle.ink_model.specs.Run.Moments.{Made, Moment, At, answered, came, moment_after, next}
use Rattle.ink_model.specs.Text.Shown.{has_more, more_from, open_newline}
use Rattle.ink_model.specs.Run.Step.{Outcome, Next, Stop, Faults, Stepped, Comes, Wants, step}
use Rattle.ink_model.specs.Story.Tree.{StoryTree}
use Rattle.ink_model.specs.declared.host.Given.{Given}
use Rattle.ink_model.specs.declared.mark.Mark.{Mark}
use Rattle.ink_line.proofs.Grows.{OutcomeHolds, SteppedHolds, answered_holds, step_holds}
use Rattle.ink_model.proofs.Opens.{has_more-append}
use Rattle.ink_line.proofs.Opens.{open_is, shown_below}

abbrev Adds : List Mark → List Mark → Type 0
Adds before after = (added : List Mark) × (after ≡ before ++ added)

more : (before : List Mark) (k ms : List Mark) → Adds before k → Adds before (k ++ ms)
more before k ms (added, is) = (added ++ ms, ap (λ l. l ++ ms) is ∙ append_assoc before added ms)

-- ---- marks

-- where nothing stands behind a newline among the marks, what stands behind it among more marks is added
behind_is_added : (before after : List Mark) (i : ℕ) → i < length before → more_from before (suc i) ≡ false → Adds before after
    → more_from after (suc i) ≡ more_from after (length before)
behind_is_added before after i l e (added, is) =
    ap (λ ms. more_from ms (suc i)) is
    ∙ (ap has_more (drop-append-le (suc i) before added (omega (arith, l)))
    ∙ (has_more-append (drop (suc i) before) added
    ∙ (ap (λ b. b || has_more added) e
    ∙ (sym (ap has_more (drop_at before added (length before) refl)) ∙ ap (λ ms. more_from ms (length before)) (sym is)))))

none_from : (n : ℕ) → more_from [] n ≡ false
none_from n = ap has_more (drop_all n [] (omega arith))

-- ---- moments

module _ (s : StoryTree) (b : Bound) (c : Configuration) (i : ℕ) (opens : open_newline c.page.line ≡ Some i) where
  abbrev Written : Moment → Type 0
  Written m = goes_past m i ≡ more_from (page_at m).line (length c.page.line)

  at_all : (k : List Mark) → Adds c.page.line k → more_from k (suc i) ≡ more_from k (length c.page.line)
  at_all k adds = let (shown, past) = open_is c.page.line i opens in behind_is_added c.page.line k i (shown_below c.page.line i shown) past adds

  itself : Adds c.page.line c.page.line
  itself = ([], sym (append-nil c.page.line))

  after_written : (o : Outcome) (left : List (Option Given)) (made : List Made) → OutcomeHolds (Adds c.page.line) (more c.page.line) o → Written (moment_after c o left made)
  after_written (Next d) left made h = at_all d.page.line h
  after_written (Stop d) left made h = at_all d.page.line h
  after_written (Faults f) left made h = at_all c.page.line itself

  came_written : (o : Stepped) (left : List (Option Given)) (made : List Made) → SteppedHolds (Adds c.page.line) (more c.page.line) o → Written (came s c o left made)
  came_written (Comes o) left made h = after_written o left made h
  came_written (Wants name arguments f d) [] made h = none_from (suc i) ∙ sym (none_from (length c.page.line))
  came_written (Wants name arguments f d) (a ∷ left) made h = after_written (answered s f d a) left _ (answered_holds (Adds c.page.line) (more c.page.line) s f d a h)

  pub written_behind : (left : List (Option Given)) (made : List Made) → Written (next s b (At c left made))
  written_behind left made = came_written (step s b c) left made (step_holds (Adds c.page.line) (more c.page.line) s b c itself)
