use Rattle.std.proofs.Common.{ap, arith, reverse}
use Rattle.ink_stack.proofs.Common.{stale, trails-one, trail_of, threads_in, threads_back}
use Rattle.ink_stack.specs.declared.undo.ThreadsPair.TheVariants.{Fresh}
use Rattle.ink_stack.proofs.Bases.{stale_kind, stale_temps}
use Rattle.ink_stack.proofs.Framing.{within_framed}
use Rattle.ink_stack.proofs.Holding.{held-noted, held-now, room-same}
use Rattle.ink_stack.proofs.undo.end_one.Goals as goal

pub returns-then-end_one-clause-trail : goal.returns-then-end_one-clause-trail
returns-then-end_one-clause-trail g c =
    trails-one threads_back (Fresh c.args.number) 1 (threads_in c.args.running.now c.args.below.now.items) _ _ _ (omega arith)
    (ap (λ t. record { thread = t; below = reverse c.args.below.now.items }) c.if-end_one.ensures.ended) c.note.ensures.undo c.note.ensures.room

pub returns-then-end_one-clause-held : goal.returns-then-end_one-clause-held
returns-then-end_one-clause-held g c =
    let v = c.args.running.now in
    let n = c.args.number in
    let items = c.args.below.now.items in
    let now = held-now _ (trail_of c.args.trail.now.undo) _ c.requires.held in
    rw c.note.ensures.undo
    (held-noted (Fresh n) 1 c.args.trail.now.undo v c.end_one.new.self items _ (ap (λ t. record { thread = t; below = reverse items }) c.if-end_one.ensures.ended)
    (rw c.end_one.ensures.running (within_framed (stale c.args.depth) (stale_kind c.args.depth) (stale_temps c.args.depth) n v.room v.thread now.thread))
    (record { frames = room-same v.room _ (ap (λ w. w.room) c.end_one.ensures.running); threads = omega arith }) c.requires.held)
