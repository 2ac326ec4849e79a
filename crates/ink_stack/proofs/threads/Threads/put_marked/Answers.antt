use Rattle.std.proofs.Common.{arith, refl}
use Rattle.ink_model.specs.Flow.Frames.{put_in, on_top}
use Rattle.ink_stack.proofs.Common.{trails-one, threads_in, threads_back}
use Rattle.ink_stack.specs.declared.undo.ThreadsPair.TheVariants.{Placed}
use Rattle.ink_stack.proofs.Backs.{placed-back, room-of, spare-of, stood-of}
use Rattle.ink_stack.proofs.Holding.{held-set, more-refl}
use Rattle.ink_stack.proofs.threads.Threads.put_marked.Goals as goal

pub invariant_of-self : goal.invariant_of-self
invariant_of-self g c =
    let ts = threads_in c.self.inside.running c.self.inside.below.items in
    rw (c.note.ensures.undo, c.put.ensures)
    (c.self.invariant.0, held-set (Placed c.place-was.result) 1 ts.thread _ ts.below c.self.inside.trail.undo _ (placed-back ts c.args.place c.place-was.result c.place-was.ensures) refl refl (more-refl _) c.self.invariant.1)

pub returns : goal.returns
returns g c =
    let ts = threads_in c.self.inside.running c.self.inside.below.items in
    let trail = trails-one threads_back (Placed c.place-was.result) 1 ts (on_top (put_in c.args.place) ts) c.self.inside.trail c.note.new.self (omega arith) (placed-back ts c.args.place c.place-was.result c.place-was.ensures) c.note.ensures.undo c.note.ensures.room in
    rw (← c.self.view_is, c.put.ensures) (record { threads = refl; trail = trail; stood = stood-of 1 _ _ trail; spare = spare-of 1 _ _ trail })

pub note-requires-clause-spare : goal.note-requires-clause-spare
note-requires-clause-spare g c = room-of 1 _ _ c.self.view_is c.requires.room
