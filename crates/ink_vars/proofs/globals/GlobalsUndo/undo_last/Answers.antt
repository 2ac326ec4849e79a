use Rattle.std.proofs.Common.{◌∙◌, ap, length, subst}
use Rattle.ink_vars.proofs.Common.{trail_of, as_they_were, Covers}
use Rattle.ink_vars.proofs.Covering.{covers_back, fits_back, were_back}
use Rattle.ink_vars.proofs.globals.GlobalsUndo.undo_last.Goals as goal

pub invariant_of-self-2 : goal.invariant_of-self-2
invariant_of-self-2 c =
    let old = c.self.inside in
    let left = trail_of c.take_last.new.self.undo in
    let covers = subst (λ es. Covers old.changes.noted (length old.table) es) c.in-Some.ensures.pair c.self.invariant.1 in
    rw c.put_one_back.ensures (fits_back old.changes c.in-Some.pair left old.table c.self.invariant.0 covers, covers_back old.changes.noted c.in-Some.pair left old.table covers)

pub returns-clause-aside : goal.returns-clause-aside
returns-clause-aside c =
    let old = c.self.inside in
    let left = trail_of c.take_last.new.self.undo in
    let covers = subst (λ es. Covers old.changes.noted (length old.table) es) c.in-Some.ensures.pair c.self.invariant.1 in
    rw (← c.self.view_is) (ap (as_they_were old.changes.noted 0) c.put_one_back.ensures ∙ were_back old.changes.noted c.in-Some.pair left old.table covers)
