use Rattle.std.proofs.Common.{◌≡◌, ◌∙◌, ◌∷◌, ap, drop, subst, sym}
use Rattle.ink_out.proofs.Common.{GoesBack, output_back, page_of, Wrote, trail_of}
use Rattle.ink_out.proofs.Closing.{refilled}
use Rattle.ink_out.proofs.Undoing.{goes-now}
use Rattle.ink_out.proofs.output.OutputUndo.undo_last.Goals as goal

pub invariant_of-self : goal.invariant_of-self
invariant_of-self c =
    let o = c.self.inside in
    let pair = Wrote c.in-Some-Wrote.state in
    let left = trail_of c.drop_last.new.self.undo in
    let last : trail_of o.trail.undo ≡ pair ∷ left =
    c.in-Some-Wrote.ensures ∙ ap (λ p. p ∷ drop 1 (trail_of o.trail.undo)) c.in-Some-Wrote.field-0-is ∙ ap (λ es. pair ∷ es) (sym c.drop_last.ensures.pairs) in
    let page = page_of o.line o.sections.items o.next_enter in
    let back = subst (λ es. GoesBack o.sections.cap es page) last c.self.invariant.1 in
    let kept = refilled o.sections.items c.deref_mut.result.now c.unwrite.new.sections o.sections.len o.sections.ok.0 c.deref_mut.ensures.value c.unwrite.auto.sections in
    let is : page_of c.unwrite.new.line c.unwrite.new.sections o.next_enter ≡ output_back pair page = rw c.deref_mut.ensures.value at (c.unwrite.ensures o.next_enter) in
    let goes = subst (λ p. GoesBack o.sections.cap left p) (sym is) back.2 in
    rw kept ((goes-now o.sections.cap left (page_of c.unwrite.new.line c.unwrite.new.sections o.next_enter) goes).0, goes)

pub returns-in-Some-Wrote-clause-cells : goal.returns-in-Some-Wrote-clause-cells
returns-in-Some-Wrote-clause-cells c =
    let o = c.self.inside in
    let pair = Wrote c.in-Some-Wrote.state in
    let last : trail_of o.trail.undo ≡ pair ∷ trail_of c.drop_last.new.self.undo =
    c.in-Some-Wrote.ensures ∙ ap (λ p. p ∷ drop 1 (trail_of o.trail.undo)) c.in-Some-Wrote.field-0-is ∙ ap (λ es. pair ∷ es) (sym c.drop_last.ensures.pairs) in
    let kept = refilled o.sections.items c.deref_mut.result.now c.unwrite.new.sections o.sections.len o.sections.ok.0 c.deref_mut.ensures.value c.unwrite.auto.sections in
    rw (← c.self.view_is, kept) (pair, last, rw c.deref_mut.ensures.value at (c.unwrite.ensures o.next_enter), c.drop_last.ensures.room)
