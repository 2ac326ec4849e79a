use Rattle.std.proofs.Common.{◌∙◌, ap, subst, sym}
use Rattle.ink_step.specs.Marks.{own_back, own_of}
use Rattle.ink_step.specs.Standing.{aside_in}
use Rattle.ink_step.specs.declared.machine.Machine.{Machine}
use Rattle.ink_trail.specs.Undo.{Trails}
use Rattle.ink_step.proofs.machine.Machine.take_up_next.Goals as goal

pub returns-clause-aside : goal.returns-clause-aside
returns-clause-aside c = c.take_up.ensures.aside ∙ ap aside_in c.set_turn.ensures.set

pub returns-clause-mark : goal.returns-clause-mark
returns-clause-mark c = c.take_up.ensures.mark ∙ c.set_turn.ensures.mark

pub returns-clause-own : goal.returns-clause-own
returns-clause-own c =
    let old = c.args.self.now in
    subst (λ (m : Machine). Trails own_back 1 (own_of old) old.trail (own_of m) m.trail) (sym c.take_up.ensures.alone) c.set_turn.ensures.trail
