use Rattle.std.proofs.Common.{◌≡◌, ◌∙◌, List, [], ◌∷◌, Err, ap, arith, inl, length, refl, subst, sym, vec_capacity}
use Rattle.ink_out.proofs.Common.{length-reverse, Page, Section, Gives, OutOfMemory, Held, output_back, closed, page_of, Closed, Wrote, trails-after, trails-one, trails-trails}
use Rattle.ink_model.specs.Text.Output.{writes_marks}
use Rattle.ink_out.proofs.Closing.{asks_mark, closed_is, put_back, refilled, some_open, unchanged}
use Rattle.ink_out.proofs.Undoing.{closed_back, goes-as, goes-with, held_page, noted_back, or_keeps}
use Rattle.ink_out.proofs.output.Output.close_with_marked.Goals as goal

pub invariant_of-self-in-Ok : goal.invariant_of-self-in-Ok
invariant_of-self-in-Ok c =
    let s = c.self.inside in
    let n = s.next_enter in
    let popped = c.pop.new.self in
    let opened = c.in-Some.top in
    let state = c.open_state-state.result in
    let below = page_of s.line popped.items n in
    let same : length c.note.new.sections ≡ length popped.items = c.note.auto.sections ∙ ap (λ (sections : List Section). length sections) c.deref_mut.ensures.value in
    let whole = refilled popped.items c.deref_mut.result.now c.note.new.sections popped.len popped.ok.0 c.deref_mut.ensures.value c.note.auto.sections in
    let written = (rw c.deref_mut.ensures.value at (c.in-Ok.ensures.page n)).0 in
    let turned = length-reverse popped.items in
    let len = popped.ok.0 in
    let cap = popped.ok.1 in
    let held : Held (vec_capacity popped) below = (c.self.invariant.0, omega (arith, turned, len, cap)) in
    rw whole (
      c.in-Ok.ensures.within c.self.invariant.0,
      rw c.note-in-Ok-2.ensures.undo
          (goes-with (Wrote state) 1 below (page_of c.note.new.line c.note.new.sections n) c.note-in-Ok.new.self.undo (vec_capacity popped) (vec_capacity popped)
          (noted_back state c.args.mark below (page_of c.note.new.line c.note.new.sections n) written)
          (held_page (vec_capacity popped) s.line c.note.new.line popped.items c.note.new.sections n c.in-Ok.ensures.within same held)
          (rw c.deref.ensures.value at (c.open_state-state.ensures n)) (omega arith)
          (rw c.note-in-Ok.ensures.undo
          (goes-with (Closed opened) 1 (page_of s.line s.sections.items n) below c.ready.new.self.undo (vec_capacity s.sections) (vec_capacity popped)
          (closed_back s.line popped.items s.sections.items n opened c.in-Some.ensures.items) held tt (omega (arith, c.pop.ensures.capacity))
          (goes-as _ _ s.trail.undo _ _ _ c.ready.ensures.kept.0 refl (omega arith) c.self.invariant.1)))),
    )

pub returns-in-Ok-clause-trail : goal.returns-in-Ok-clause-trail
returns-in-Ok-clause-trail c =
    let s = c.self.inside in
    let n = s.next_enter in
    let popped = c.pop.new.self in
    let opened = c.in-Some.top in
    let state = c.open_state-state.result in
    let below = page_of s.line popped.items n in
    let same : length c.note.new.sections ≡ length popped.items = c.note.auto.sections ∙ ap (λ (sections : List Section). length sections) c.deref_mut.ensures.value in
    let whole = refilled popped.items c.deref_mut.result.now c.note.new.sections popped.len popped.ok.0 c.deref_mut.ensures.value c.note.auto.sections in
    let written = (rw c.deref_mut.ensures.value at (c.in-Ok.ensures.page n)).0 in
    rw (← c.self.view_is, whole) (trails-after output_back 2 _ _ _ c.ready.new.self _ c.ready.ensures.kept
    (trails-trails output_back 1 1 _ below _ _ c.note-in-Ok.new.self _
    (trails-one output_back (Closed opened) 1 _ _ _ _ (omega arith) (closed_back s.line popped.items s.sections.items n opened c.in-Some.ensures.items) c.note-in-Ok.ensures.undo c.note-in-Ok.ensures.room)
    (trails-one output_back (Wrote state) 1 _ _ _ _ (omega arith) (noted_back state c.args.mark below (page_of c.note.new.line c.note.new.sections n) written) c.note-in-Ok-2.ensures.undo c.note-in-Ok-2.ensures.room)))

pub invariant_of-self : goal.invariant_of-self
invariant_of-self c = (c.self.invariant.0, goes-as _ _ c.self.inside.trail.undo _ _ _ c.ready.ensures.kept.0 refl (omega arith) c.self.invariant.1)

pub returns-in_err-ready-clause-page : goal.returns-in_err-ready-clause-page
returns-in_err-ready-clause-page c =
    unchanged (writes_marks (c.args.mark ∷ []) (closed c.args.self.now.page)) c.args.self.now.page _ OutOfMemory c.from_residual.result (ap (λ w. w.page) c.self.view_is) c.from_residual.ensures.1
    (inl (refl, asks_mark (c.args.mark ∷ []) (closed c.args.self.now.page)))

pub returns-in_err-ready-clause-trail : goal.returns-in_err-ready-clause-trail
returns-in_err-ready-clause-trail c = rw (← c.self.view_is) (or_keeps c.from_residual.result _ 2 _ _ _ _ c.from_residual.ensures.1 refl c.ready.ensures.kept)

-- something is open

pub invariant_of-self-in_default : goal.invariant_of-self-in_default
invariant_of-self-in_default c =
    let sections = c.self.inside.sections in
    let some = some_open sections.items c.args.self.now.page.sections (ap (λ w. w.page.sections) c.self.view_is) c.requires in
    absurd (omega (arith, some, sections.ok.0, c.in_default.ensures.cases.0))

pub returns-in_default-clause-page : goal.returns-in_default-clause-page
returns-in_default-clause-page c =
    let sections = c.self.inside.sections in
    let some = some_open sections.items c.args.self.now.page.sections (ap (λ w. w.page.sections) c.self.view_is) c.requires in
    absurd (omega (arith, some, sections.ok.0, c.in_default.ensures.cases.0))

pub returns-in_default-clause-trail : goal.returns-in_default-clause-trail
returns-in_default-clause-trail c =
    let sections = c.self.inside.sections in
    let some = some_open sections.items c.args.self.now.page.sections (ap (λ w. w.page.sections) c.self.view_is) c.requires in
    absurd (omega (arith, some, sections.ok.0, c.in_default.ensures.cases.0))

-- the mark found no room

pub invariant_of-self-in-Err : goal.invariant_of-self-in-Err
invariant_of-self-in-Err c =
    let s = c.self.inside in
    let popped = c.pop.new.self in
    let new = c.push_reserved.new.self in
    let back = put_back s.line c.note.new.line s.sections.items popped.items c.deref_mut.result.now c.note.new.sections new.items popped.len s.next_enter c.in-Some.top
    popped.ok.0 c.deref_mut.ensures.value c.note.auto.sections c.in-Err.ensures.err c.in-Some.ensures.items c.push_reserved.ensures.items in
    (c.in-Err.ensures.within c.self.invariant.0, goes-as (vec_capacity s.sections) (vec_capacity new) s.trail.undo _ _ _ c.ready.ensures.kept.0 back (omega (arith, c.pop.ensures.capacity, c.push_reserved.ensures.capacity)) c.self.invariant.1)

pub returns-in-Err-clause-page : goal.returns-in-Err-clause-page
returns-in-Err-clause-page c =
    let s = c.self.inside in
    let n = s.next_enter in
    let popped = c.pop.new.self in
    let back = put_back s.line c.note.new.line s.sections.items popped.items c.deref_mut.result.now c.note.new.sections c.push_reserved.new.self.items popped.len n c.in-Some.top
    popped.ok.0 c.deref_mut.ensures.value c.note.auto.sections c.in-Err.ensures.err c.in-Some.ensures.items c.push_reserved.ensures.items in
    let below : page_of s.line c.deref_mut.result.now n ≡ closed (page_of s.line s.sections.items n) =
    ap (λ (xs : List Section). page_of s.line xs n) c.deref_mut.ensures.value ∙ sym (closed_is s.line s.sections.items popped.items n c.in-Some.top c.in-Some.ensures.items) in
    rw (← c.self.view_is) (subst (λ (p : Page). Gives {A = Page} (Err c.in-Err.fault) (writes_marks (c.args.mark ∷ []) p)) below (c.in-Err.ensures.page n).0, back)

pub returns-in-Err-clause-trail : goal.returns-in-Err-clause-trail
returns-in-Err-clause-trail c =
    let s = c.self.inside in
    let popped = c.pop.new.self in
    let back = put_back s.line c.note.new.line s.sections.items popped.items c.deref_mut.result.now c.note.new.sections c.push_reserved.new.self.items popped.len s.next_enter c.in-Some.top
    popped.ok.0 c.deref_mut.ensures.value c.note.auto.sections c.in-Err.ensures.err c.in-Some.ensures.items c.push_reserved.ensures.items in
    rw (← c.self.view_is) (back, c.ready.ensures.kept)

pub returns-in-Ok-clause-page : goal.returns-in-Ok-clause-page
returns-in-Ok-clause-page c =
    let s = c.self.inside in
    let n = s.next_enter in
    let popped = c.pop.new.self in
    let whole = refilled popped.items c.deref_mut.result.now c.note.new.sections popped.len popped.ok.0 c.deref_mut.ensures.value c.note.auto.sections in
    let written = (rw c.deref_mut.ensures.value at (c.in-Ok.ensures.page n)).0 in
    let below = closed_is s.line s.sections.items popped.items n c.in-Some.top c.in-Some.ensures.items in
    rw (← c.self.view_is, whole) (ap (writes_marks (c.args.mark ∷ [])) below ∙ written, tt)
