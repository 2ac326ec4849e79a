use Rattle.std.proofs.Common.{arith, refl, reverse, subst}
use Rattle.ink_stack.proofs.Common.{reverse-reverse, mode_in, on_top, notes-trails, trails-one, trail_of, threads_in, HasMode, threads_back}
use Rattle.ink_stack.specs.declared.undo.ThreadsPair.TheVariants.{Evaluating}
use Rattle.ink_stack.proofs.Backs.{mode-back, room-of, spare-noted, stood-noted}
use Rattle.ink_stack.proofs.Counting.{writes-noted}
use Rattle.ink_stack.proofs.Holding.{held-set, more-refl}
use Rattle.ink_stack.proofs.threads.Threads.set_mode_marked.Goals as goal

pub invariant_of-self : goal.invariant_of-self
invariant_of-self g c =
    let ts = threads_in c.self.inside.running c.self.inside.below.items in
    let back = mode-back ts c.args.evaluating c.is_evaluating-was.result c.is_evaluating-was.ensures in
    rw (c.note.ensures.undo, c.set_mode.ensures)
    (c.self.invariant.0, held-set (Evaluating c.is_evaluating-was.result) 1 ts.thread _ ts.below c.self.inside.trail.undo _ back refl refl (more-refl _) c.self.invariant.1)

pub returns : goal.returns
returns g c =
    let ts = threads_in c.self.inside.running c.self.inside.below.items in
    let back = mode-back ts c.args.evaluating c.is_evaluating-was.result c.is_evaluating-was.ensures in
    let trail = notes-trails threads_back 1 _ _ _ _
    (trails-one threads_back (Evaluating c.is_evaluating-was.result) 1 ts (on_top (mode_in c.args.evaluating) ts) c.self.inside.trail c.note.new.self (omega arith) back c.note.ensures.undo c.note.ensures.room) in
    rw (← c.self.view_is, c.set_mode.ensures) (record { threads = refl; trail = trail; writes = writes-noted (Evaluating c.is_evaluating-was.result) 1 c.self.inside.trail.undo c.note.new.self.undo c.note.ensures.undo; stood = stood-noted 1 _ _ trail; spare = spare-noted 1 _ _ trail })

pub note-requires-clause-spare : goal.note-requires-clause-spare
note-requires-clause-spare g c = room-of 1 _ _ c.self.view_is c.requires.room

pub set_mode_again-requires : goal.set_mode_again-requires
set_mode_again-requires g c =
    let noted : HasMode (reverse (reverse (trail_of c.self.inside.trail.undo))) = subst (λ es. HasMode (reverse es)) c.pairs.ensures (c.has_mode.ensures c.if-has_mode.true) in
    record { mode = subst (λ v. HasMode (trail_of v.trail.undo)) c.self.view_is (subst HasMode (reverse-reverse (trail_of c.self.inside.trail.undo)) noted) }
