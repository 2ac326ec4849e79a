use Rattle.ink_model.specs.Text.Output.{begins_function}
use Rattle.ink_out.proofs.Common.{Gives, Page, output_back, output_spare, output_stood, page_of}
use Rattle.std.proofs.Common.{arith, refl, vec_capacity, Err, subst, sym, ap}
use Rattle.ink_out.specs.declared.undo.OutputPair.TheVariants.{Numbered}
use Rattle.ink_out.proofs.Closing.{refilled, begins, unchanged, limited}
use Rattle.ink_out.proofs.Undoing.{goes-now, goes-with, or_keeps}
use Rattle.ink_out.proofs.Marks.{spare_after, stood_after}
use Rattle.ink_out.proofs.output.Output.enter.Goals as goal
use Rattle.ink_trail.proofs.Undoing.{spare-trails, stood-trails, trails-one, trails-trails}

pub invariant_of-self : goal.invariant_of-self
invariant_of-self c =
    let s = c.self.inside in
    let whole = refilled s.sections.items c.deref_mut.result.now c.note_in.new.sections s.sections.len s.sections.ok.0 c.deref_mut.ensures.value c.note_in.auto.sections in
    rw whole (c.in_err-note_in.ensures.within c.self.invariant.0, (rw c.deref_mut.ensures.value at (c.in_err-note_in.ensures.back s.next_enter (vec_capacity s.sections))) c.self.invariant.1)

pub invariant_of-self-2 : goal.invariant_of-self-2
invariant_of-self-2 c =
    let s = c.self.inside in
    let room = vec_capacity s.sections in
    let whole = refilled s.sections.items c.deref_mut.result.now c.note_in.new.sections s.sections.len s.sections.ok.0 c.deref_mut.ensures.value c.note_in.auto.sections in
    let back = (rw c.deref_mut.ensures.value at (c.in_ok-note_in.ensures.back s.next_enter room)) c.self.invariant.1 in
    rw (whole, c.note_number.ensures.undo) (
      c.in_ok-note_in.ensures.within c.self.invariant.0,
      goes-with (Numbered s.next_enter) 1 (page_of c.note_in.new.line c.note_in.new.sections s.next_enter) _ c.note_in.new.trail.undo room room refl (goes-now room _ _ back) tt (omega arith) back,
    )

pub returns-in_err-note_in-clause-trail : goal.returns-in_err-note_in-clause-trail
returns-in_err-note_in-clause-trail c =
    let s = c.self.inside in
    let whole = refilled s.sections.items c.deref_mut.result.now c.note_in.new.sections s.sections.len s.sections.ok.0 c.deref_mut.ensures.value c.note_in.auto.sections in
    let kept = rw c.deref_mut.ensures.value at (c.in_err-note_in.ensures.trail s.next_enter) in
    rw (← c.self.view_is, whole) (or_keeps c.from_residual-in_err-note_in.result _ 2 _ _ _ _ c.from_residual-in_err-note_in.ensures.1 kept.0 kept.1)

pub returns-in_err-note_in-clause-stood : goal.returns-in_err-note_in-clause-stood
returns-in_err-note_in-clause-stood c = stood_after c.from_residual-in_err-note_in.result 2 _ _ (returns-in_err-note_in-clause-trail c)

pub returns-in_err-note_in-clause-spare : goal.returns-in_err-note_in-clause-spare
returns-in_err-note_in-clause-spare c = spare_after c.from_residual-in_err-note_in.result 2 _ _ (returns-in_err-note_in-clause-trail c)

pub returns-clause-trail : goal.returns-clause-trail
returns-clause-trail c =
    let s = c.self.inside in
    let whole = refilled s.sections.items c.deref_mut.result.now c.note_in.new.sections s.sections.len s.sections.ok.0 c.deref_mut.ensures.value c.note_in.auto.sections in
    rw (← c.self.view_is, whole)
    (trails-trails output_back 1 1 _ (page_of c.note_in.new.line c.note_in.new.sections s.next_enter) _ _ c.note_in.new.trail _ (rw c.deref_mut.ensures.value at (c.in_ok-note_in.ensures.trail s.next_enter))
    (trails-one output_back (Numbered s.next_enter) 1 _ _ _ _ (omega arith) refl c.note_number.ensures.undo c.note_number.ensures.room))

pub returns-clause-stood : goal.returns-clause-stood
unfolding output_stood
returns-clause-stood c = stood-trails output_back (returns-clause-trail c)

pub returns-clause-spare : goal.returns-clause-spare
unfolding output_spare
returns-clause-spare c = spare-trails output_back (returns-clause-trail c)

pub returns-clause-page : goal.returns-clause-page
returns-clause-page c =
    let s = c.self.inside in
    let next = c.in_ok-next.next in
    let whole = refilled s.sections.items c.deref_mut.result.now c.note_in.new.sections s.sections.len s.sections.ok.0 c.deref_mut.ensures.value c.note_in.auto.sections in
    let begun = begins s.line s.sections.items s.next_enter next (grind arith) (grind arith) in
    let written = (rw c.deref_mut.ensures.value at (c.in_ok-note_in.ensures.page next)).0 in
    rw (← c.self.view_is, whole, begun, written) (refl, tt)

pub returns-in_err-note_in-clause-page : goal.returns-in_err-note_in-clause-page
returns-in_err-note_in-clause-page c =
    let s = c.self.inside in
    let next = c.in_ok-next.next in
    let page = page_of s.line s.sections.items s.next_enter in
    let f = c.in_err-note_in.field-0.0 in
    let whole = refilled s.sections.items c.deref_mut.result.now c.note_in.new.sections s.sections.len s.sections.ok.0 c.deref_mut.ensures.value c.note_in.auto.sections in
    let begun = begins s.line s.sections.items s.next_enter next (grind arith) (grind arith) in
    let kept = (rw c.deref_mut.ensures.value at (c.in_err-note_in.ensures.page s.next_enter)).1 in
    let refused = (rw c.deref_mut.ensures.value at (c.in_err-note_in.ensures.page next)).0 in
    rw (← c.self.view_is, whole)
    (unchanged (begins_function page) page _ f c.from_residual-in_err-note_in.result kept c.from_residual-in_err-note_in.ensures.1 (subst (λ r. Gives {A = Page} (Err f) r) (sym begun) refused))

pub returns-in_err-note_in-clause-limit : goal.returns-in_err-note_in-clause-limit
returns-in_err-note_in-clause-limit c =
    let s = c.self.inside in
    let next = c.in_ok-next.next in
    let begun = begins s.line s.sections.items s.next_enter next (grind arith) (grind arith) in
    let limit = rw c.deref_mut.ensures.value at (c.in_err-note_in.ensures.limit next) in
    rw (← c.self.view_is, begun) (limited _ c.in_err-note_in.field-0.0 c.from_residual-in_err-note_in.result c.from_residual-in_err-note_in.ensures.1 limit)

pub returns-clause-limit : goal.returns-clause-limit
returns-clause-limit c =
    let s = c.self.inside in
    let next = c.in_ok-next.next in
    let begun = begins s.line s.sections.items s.next_enter next (grind arith) (grind arith) in
    let written = (rw c.deref_mut.ensures.value at (c.in_ok-note_in.ensures.page next)).0 in
    rw (← c.self.view_is, begun, written) tt

pub returns-clause-number : goal.returns-clause-number
returns-clause-number c = ap (λ w. w.page.next_enter) c.self.view_is
