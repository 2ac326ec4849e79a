use Rattle.std.proofs.Common.{◌≡◌, ◌∙◌, ℕ, List, ap, reverse, subst, sym}
use Rattle.ink_out.specs.Tracks.{settled_after}
use Rattle.ink_trail.specs.Undo.{but_last}
use Rattle.ink_trail.proofs.Ending.{but_last-snoc}
use Rattle.ink_out.proofs.Starting.{sees_less}
use Rattle.ink_out.proofs.section.take_last_back.Goals as goal

pub returns-clause-marks : goal.returns-clause-marks
returns-clause-marks c =
    sym (ap but_last c.in-Some.ensures.items ∙ but_last-snoc c.pop.new.self.items c.in-Some.mark)

pub returns-clause-sees : goal.returns-clause-sees
returns-clause-sees c = λ state next waits fits sees.
    sees_less c.args.marks.now.items c.pop.new.self.items c.in-Some.mark c.args.settled.now.items c.unsettle.new.settled.items state next c.args.enters.now c.forget.new.self c.in-Some.ensures.items
    fits (subst (λ w. (before : List ℕ) → reverse c.args.settled.now.items ≡ settled_after c.in-Some.mark w before → reverse c.unsettle.new.settled.items ≡ before) (sym waits) c.unsettle.ensures) c.forget.ensures sees
