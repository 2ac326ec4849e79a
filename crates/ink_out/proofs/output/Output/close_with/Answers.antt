use Rattle.std.proofs.Common.{◌∙◌, ◌≤◌, [], ◌∷◌, length, refl, reverse, ap, arith, sym, vec_capacity}
use Rattle.ink_out.proofs.Common.{length-reverse, mark_of, output_back}
use Rattle.ink_out.proofs.Closing.{closed_ok, closed_err, some_open, stays_as}
use Rattle.ink_out.proofs.Undoing.{goes-as, goes-unmarked, or_keeps}
use Rattle.ink_out.proofs.output.Output.close_with.Goals as goal
use Rattle.ink_trail.proofs.Undoing.{trails-unmarked}

pub invariant_of-self : goal.invariant_of-self
invariant_of-self c =
    let s = c.self.inside in
    let stays = stays_as s.line c.note_below.new.line s.sections.items c.deref_mut.result.now c.note_below.new.sections s.sections.len s.next_enter s.sections.ok.0 c.deref_mut.ensures.value c.note_below.auto.sections c.in_err-note_below.ensures.err in
    (c.in_err-note_below.ensures.within c.self.invariant.0, goes-as _ _ s.trail.undo _ _ _ refl stays (omega arith) c.self.invariant.1)

pub invariant_of-self-2 : goal.invariant_of-self-2
invariant_of-self-2 c =
    let s = c.self.inside in
    let popped = c.pop.new.self in
    let line = c.in_ok-note_below.ensures.within c.self.invariant.0 in
    let few : length (reverse popped.items) ≤ vec_capacity popped = omega (arith, length-reverse popped.items, popped.ok.0, popped.ok.1) in
    (line, goes-unmarked (vec_capacity popped) s.trail.undo _ (sym c.is_marked.ensures ∙ c.if-is_marked.false) (line, few))

pub returns-in_err-note_below-clause-trail : goal.returns-in_err-note_below-clause-trail
returns-in_err-note_below-clause-trail c =
    let s = c.self.inside in
    let stays = stays_as s.line c.note_below.new.line s.sections.items c.deref_mut.result.now c.note_below.new.sections s.sections.len s.next_enter s.sections.ok.0 c.deref_mut.ensures.value c.note_below.auto.sections c.in_err-note_below.ensures.err in
    rw (← c.self.view_is) (or_keeps c.from_residual.result _ 2 _ _ _ _ c.from_residual.ensures.1 stays (refl, omega arith))

pub returns-clause-trail : goal.returns-clause-trail
returns-clause-trail c = rw (← c.self.view_is) (trails-unmarked output_back 2 _ _ _ _ (sym c.is_marked.ensures ∙ c.if-is_marked.false) (refl, omega arith))

pub returns-in_err-note_below-clause-page : goal.returns-in_err-note_below-clause-page
returns-in_err-note_below-clause-page c =
    let some = some_open c.self.inside.sections.items c.args.self.now.page.sections (ap (λ w. w.page.sections) c.self.view_is) c.requires in
    rw (← c.self.view_is) (closed_err ((mark_of c.args.form) ∷ []) c.self.inside.line c.note_below.new.line c.self.inside.sections.items c.deref_mut.result.now c.note_below.new.sections c.self.inside.sections.len c.self.inside.next_enter c.in_err-note_below.field-0.0 c.from_residual.result c.deref_mut.ensures.value c.self.inside.sections.ok.0 some c.note_below.auto.sections c.in_err-note_below.ensures.err c.from_residual.ensures.1 (c.in_err-note_below.ensures.page c.self.inside.next_enter))

pub returns-clause-page : goal.returns-clause-page
returns-clause-page c =
    let some = some_open c.self.inside.sections.items c.args.self.now.page.sections (ap (λ w. w.page.sections) c.self.view_is) c.requires in
    let written = closed_ok ((mark_of c.args.form) ∷ []) c.self.inside.line c.note_below.new.line c.self.inside.sections.items c.deref_mut.result.now c.note_below.new.sections c.pop.new.self.items c.self.inside.sections.len c.self.inside.next_enter c.deref_mut.ensures.value c.self.inside.sections.ok.0 some c.note_below.auto.sections c.pop.ensures.rest (c.in_ok-note_below.ensures.page c.self.inside.next_enter) in
    rw (← c.self.view_is, written) (refl, tt)

pub note_below-requires : goal.note_below-requires
note_below-requires c =
    let some = some_open c.self.inside.sections.items c.args.self.now.page.sections (ap (λ w. w.page.sections) c.self.view_is) c.requires in
    rw c.deref_mut.ensures.value some
