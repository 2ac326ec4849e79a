use Rattle.ink_out.proofs.Common.{page_of, length-reverse, output_back, Closed, trails-after, trails-one}
use Rattle.ink_out.proofs.Closing.{closed_is}
use Rattle.std.proofs.Common.{arith, ◌≤◌, length, refl, reverse, vec_capacity}
use Rattle.ink_out.proofs.Undoing.{closed_back, goes-as, goes-with}
use Rattle.ink_out.proofs.output.Output.close_marked.Goals as goal

pub returns-in-Some-clause-trail : goal.returns-in-Some-clause-trail
returns-in-Some-clause-trail c =
    let s = c.self.inside in
    rw (← c.self.view_is) (trails-after output_back 1 _ _ _ c.ready.new.self _ c.ready.ensures.kept
    (trails-one output_back (Closed c.in-Some.opened) 1 _ _ _ _ (omega arith) (closed_back s.line c.pop.new.self.items s.sections.items s.next_enter c.in-Some.opened c.in-Some.ensures.items) c.note.ensures.undo c.note.ensures.room))

pub returns-in-Some-clause-page : goal.returns-in-Some-clause-page
returns-in-Some-clause-page c =
    let s = c.self.inside in
    rw (← c.self.view_is, closed_is s.line s.sections.items c.pop.new.self.items s.next_enter c.in-Some.opened c.in-Some.ensures.items) (refl, tt)

pub invariant_of-self-in-Some : goal.invariant_of-self-in-Some
invariant_of-self-in-Some c =
    let s = c.self.inside in
    let n = s.next_enter in
    let popped = c.pop.new.self in
    let few : length (reverse popped.items) ≤ vec_capacity popped = omega (arith, length-reverse popped.items, popped.ok.0, popped.ok.1) in (
      c.self.invariant.0,
      rw c.note.ensures.undo
          (goes-with (Closed c.in-Some.opened) 1 (page_of s.line s.sections.items n) (page_of s.line popped.items n) c.ready.new.self.undo (vec_capacity s.sections) (vec_capacity popped)
          (closed_back s.line popped.items s.sections.items n c.in-Some.opened c.in-Some.ensures.items) (c.self.invariant.0, few) tt (omega (arith, c.pop.ensures.capacity))
          (goes-as _ _ s.trail.undo _ _ _ c.ready.ensures.kept.0 refl (omega arith) c.self.invariant.1)),
    )
