use Rattle.std.proofs.Common.{arith, refl}
use Rattle.ink_stack.proofs.Common.{on_top, trails-one, threads_in, threads_back}
use Rattle.ink_model.specs.Flow.Threads.{number_in}
use Rattle.ink_stack.specs.declared.undo.ThreadsPair.TheVariants.{Numbered}
use Rattle.ink_stack.proofs.Backs.{numbered-back, room-of, spare-of, stood-of}
use Rattle.ink_stack.proofs.Holding.{held-set, more-refl}
use Rattle.ink_stack.proofs.threads.Threads.set_number_marked.Goals as goal

pub invariant_of-self : goal.invariant_of-self
invariant_of-self g c =
    let ts = threads_in c.self.inside.running c.self.inside.below.items in
    rw (c.note.ensures.undo, c.set_number.ensures)
    (c.self.invariant.0, held-set (Numbered c.number-was.result) 1 ts.thread _ ts.below c.self.inside.trail.undo _ (numbered-back ts c.args.number c.number-was.result c.number-was.ensures) refl refl (more-refl _) c.self.invariant.1)

pub returns : goal.returns
returns g c =
    let ts = threads_in c.self.inside.running c.self.inside.below.items in
    let trail = trails-one threads_back (Numbered c.number-was.result) 1 ts (on_top (number_in c.args.number) ts) c.self.inside.trail c.note.new.self (omega arith) (numbered-back ts c.args.number c.number-was.result c.number-was.ensures) c.note.ensures.undo c.note.ensures.room in
    rw (← c.self.view_is, c.set_number.ensures) (record { threads = refl; trail = trail; stood = stood-of 1 _ _ trail; spare = spare-of 1 _ _ trail })

pub note-requires-clause-spare : goal.note-requires-clause-spare
note-requires-clause-spare g c = room-of 1 _ _ c.self.view_is c.requires.room
