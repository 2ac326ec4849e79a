use Rattle.std.proofs.Common.{ap, arith, refl, subst, sym}
use Rattle.ink_trail.proofs.Undoing.{notes-none}
use Rattle.ink_trail.specs.Undo.{writes_of}
use Rattle.ink_stack.proofs.Common.{trail_of, threads_in, HasMode, threads_back}
use Rattle.ink_stack.proofs.Backs.{mode-noted, spare-noted, stood-noted}
use Rattle.ink_stack.proofs.Holding.{held-again}
use Rattle.ink_stack.proofs.threads.Threads.set_mode_again.Goals as goal

pub invariant_of-self : goal.invariant_of-self
invariant_of-self g c =
    let ts = threads_in c.self.inside.running c.self.inside.below.items in
    let mode = subst (λ v. HasMode (trail_of v.trail.undo)) (sym c.self.view_is) c.requires.mode in
    rw (c.count.ensures.undo, c.set_mode.ensures) (c.self.invariant.0, held-again 1 c.args.evaluating c.self.inside.trail.undo ts _ mode c.self.invariant.1)

pub returns : goal.returns
returns g c =
    let ts = threads_in c.self.inside.running c.self.inside.below.items in
    let mode = subst (λ v. HasMode (trail_of v.trail.undo)) (sym c.self.view_is) c.requires.mode in
    let trail = notes-none threads_back 1 ts _ c.self.inside.trail c.count.new.self c.count.ensures.undo (λ _. mode-noted c.args.evaluating (trail_of c.self.inside.trail.undo) ts mode) (omega (arith, c.count.ensures.room)) in
    rw (← c.self.view_is, c.set_mode.ensures) (record { threads = refl; trail = trail; writes = ap writes_of c.count.ensures.undo; stood = stood-noted 1 _ _ trail; spare = spare-noted 1 _ _ trail })
