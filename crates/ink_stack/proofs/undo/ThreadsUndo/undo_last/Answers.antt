use Rattle.std.proofs.Common.{◌∷◌, ◌∙◌, ap, sym}
use Rattle.ink_stack.specs.Running.{threads_in}
use Rattle.ink_trail.specs.Undo.{writes_of}
use Rattle.ink_stack.proofs.undo.ThreadsUndo.undo_last.Goals as goal

pub returns-in-Some-Gone-clause-cells : goal.returns-in-Some-Gone-clause-cells
returns-in-Some-Gone-clause-cells g c =
    let pair = c.in-Some-Gone.field-0.now in
    rw (← c.self.view_is) (
      pair,
      c.in-Some-Gone.ensures ∙ ap (λ es. pair ∷ es) (sym c.drop_last.ensures.pairs),
      rw c.in-Some-Gone.field-0-is (ap (λ v. threads_in v c.self.inside.below.items) c.ungo.ensures),
      c.drop_last.ensures.room,
    )

pub returns-in-Some-Evaluating-clause-cells : goal.returns-in-Some-Evaluating-clause-cells
returns-in-Some-Evaluating-clause-cells g c =
    let pair = c.in-Some-Evaluating.field-0.now in
    rw (← c.self.view_is) (
      pair,
      c.in-Some-Evaluating.ensures ∙ ap (λ es. pair ∷ es) (sym c.drop_last-in-Some-Evaluating.ensures.pairs),
      rw c.in-Some-Evaluating.field-0-is (ap (λ v. threads_in v c.self.inside.below.items) c.set_mode.ensures),
      c.drop_last-in-Some-Evaluating.ensures.room,
    )

pub returns-in-Some-Evaluating-clause-writes : goal.returns-in-Some-Evaluating-clause-writes
returns-in-Some-Evaluating-clause-writes g c = c.drop_last-in-Some-Evaluating.ensures.writes ∙ ap (λ v. writes_of v.trail.undo) c.self.view_is

pub returns-in-Some-Gone-clause-writes : goal.returns-in-Some-Gone-clause-writes
returns-in-Some-Gone-clause-writes g c = c.drop_last.ensures.writes ∙ ap (λ v. writes_of v.trail.undo) c.self.view_is
