use Rattle.std.proofs.Common.{ap, arith, refl, subst, sym}
use Rattle.ink_trail.proofs.Undoing.{notes-none}
use Rattle.ink_trail.specs.Undo.{writes_of}
use Rattle.ink_stack.proofs.Common.{trail_of, threads_in, HasGone, threads_back}
use Rattle.ink_stack.proofs.Backs.{gone-noted, spare-noted, stood-noted}
use Rattle.ink_stack.proofs.Holding.{held-further}
use Rattle.ink_stack.proofs.threads.Threads.go_further.Goals as goal

pub invariant_of-self : goal.invariant_of-self
invariant_of-self g c =
    let ts = threads_in c.self.inside.running c.self.inside.below.items in
    let gone = subst (λ v. HasGone (trail_of v.trail.undo)) (sym c.self.view_is) c.requires.gone in
    rw (c.count.ensures.undo, c.go.ensures) (c.self.invariant.0, held-further 2 c.args.place c.self.inside.trail.undo ts _ gone c.self.invariant.1)

pub returns : goal.returns
returns g c =
    let ts = threads_in c.self.inside.running c.self.inside.below.items in
    let gone = subst (λ v. HasGone (trail_of v.trail.undo)) (sym c.self.view_is) c.requires.gone in
    let trail = notes-none threads_back 2 ts _ c.self.inside.trail c.count.new.self c.count.ensures.undo (λ _. gone-noted c.args.place (trail_of c.self.inside.trail.undo) ts gone) (omega (arith, c.count.ensures.room)) in
    rw (← c.self.view_is, c.go.ensures) (record { threads = refl; trail = trail; writes = ap writes_of c.count.ensures.undo; stood = stood-noted 2 _ _ trail; spare = spare-noted 2 _ _ trail })
