use Rattle.std.proofs.Common.{◌∙◌, ◌<◌, ap, false, refl, slice_index_or, subst, sym}
use Rattle.ink_vars.proofs.Marking.{has_slot}
use Rattle.ink_vars.proofs.Noting.{noted_is_marked}
use Rattle.ink_vars.proofs.changes.Changes.is_noted.Goals as goal

pub returns-clause-noted : goal.returns-clause-noted
returns-clause-noted c =
    sym (noted_is_marked c.self.inside.marked.items c.deref.result.now c.self.inside.noted.items c.args.self.now.noted c.args.index c.args.index c.is_marked.result
    c.self.invariant.0 (ap (λ v. v.noted) c.self.view_is) c.deref.ensures.value refl c.is_marked.ensures)

pub returns-clause-slot : goal.returns-clause-slot
returns-clause-slot c mark =
    subst (λ n. c.args.index < n) (ap (λ v. v.slots) c.self.view_is)
    (has_slot c.self.inside.marked.items c.args.index (sym (ap (λ ms. slice_index_or ms c.args.index false) c.deref.ensures.value) ∙ sym c.is_marked.ensures ∙ mark))
