use Rattle.std.proofs.Common.{vec_capacity}
use Rattle.ink_out.proofs.Closing.{refilled}
use Rattle.ink_out.proofs.output.Output.note.Goals as goal

pub returns-clause-trail : goal.returns-clause-trail
returns-clause-trail c =
    let s = c.self.inside in
    let kept = refilled s.sections.items c.deref_mut.result.now c.note_in.new.sections s.sections.len s.sections.ok.0 c.deref_mut.ensures.value c.note_in.auto.sections in
    rw (← c.self.view_is, kept) (rw c.deref_mut.ensures.value at (c.note_in.ensures.trail s.next_enter))

pub invariant_of-self : goal.invariant_of-self
invariant_of-self c =
    let s = c.self.inside in
    let kept = refilled s.sections.items c.deref_mut.result.now c.note_in.new.sections s.sections.len s.sections.ok.0 c.deref_mut.ensures.value c.note_in.auto.sections in
    rw kept (c.note_in.ensures.within c.self.invariant.0, (rw c.deref_mut.ensures.value at (c.note_in.ensures.back s.next_enter (vec_capacity s.sections))) c.self.invariant.1)

pub returns-clause-page : goal.returns-clause-page
returns-clause-page c =
    let s = c.self.inside in
    let kept = refilled s.sections.items c.deref_mut.result.now c.note_in.new.sections s.sections.len s.sections.ok.0 c.deref_mut.ensures.value c.note_in.auto.sections in
    let page = rw c.deref_mut.ensures.value at (c.note_in.ensures.page s.next_enter) in
    rw (← c.self.view_is, kept) page
