use Rattle.std.proofs.Common.{arith, refl}
use Rattle.ink_stack.proofs.Common.{gone, on_top, notes-trails, trails-one, threads_in, threads_back}
use Rattle.ink_stack.specs.declared.undo.ThreadsPair.TheVariants.{Gone}
use Rattle.ink_stack.proofs.Backs.{gone-back, room-of, spare-noted, stood-noted}
use Rattle.ink_stack.proofs.Counting.{writes-noted}
use Rattle.ink_stack.proofs.Holding.{held-set, more-refl}
use Rattle.ink_stack.proofs.threads.Threads.go_marked.Goals as goal

pub invariant_of-self : goal.invariant_of-self
invariant_of-self g c =
    let ts = threads_in c.self.inside.running c.self.inside.below.items in
    rw (c.note.ensures.undo, c.go.ensures)
    (c.self.invariant.0, held-set (Gone c.place-left.result c.previous-previous.result) 2 ts.thread _ ts.below c.self.inside.trail.undo _ (gone-back ts c.args.place _ _ c.place-left.ensures c.previous-previous.ensures) refl refl (more-refl _) c.self.invariant.1)

pub returns : goal.returns
returns g c =
    let ts = threads_in c.self.inside.running c.self.inside.below.items in
    let trail = notes-trails threads_back 2 _ _ _ _
    (trails-one threads_back (Gone c.place-left.result c.previous-previous.result) 2 ts (on_top (gone c.args.place) ts) c.self.inside.trail c.note.new.self (omega arith) (gone-back ts c.args.place _ _ c.place-left.ensures c.previous-previous.ensures) c.note.ensures.undo c.note.ensures.room) in
    rw (← c.self.view_is, c.go.ensures) (record { threads = refl; trail = trail; writes = writes-noted (Gone c.place-left.result c.previous-previous.result) 2 c.self.inside.trail.undo c.note.new.self.undo c.note.ensures.undo; stood = stood-noted 2 _ _ trail; spare = spare-noted 2 _ _ trail })

pub note-requires-clause-spare : goal.note-requires-clause-spare
note-requires-clause-spare g c = omega (arith, room-of 2 _ _ c.self.view_is c.requires.room)
