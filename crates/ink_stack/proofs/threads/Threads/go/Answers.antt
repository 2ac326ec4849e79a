use Rattle.std.proofs.Common.{◌∙◌, ap, refl, reverse, subst, sym}
use Rattle.ink_stack.proofs.Common.{reverse-reverse, notes-trails, trail_of, threads_in, HasGone, threads_back}
use Rattle.ink_stack.proofs.Backs.{spare-noted, stood-noted}
use Rattle.ink_stack.proofs.Counting.{writes-unmarked}
use Rattle.ink_stack.proofs.Holding.{held-same}
use Rattle.ink_stack.proofs.Unmarked.{free}
use Rattle.ink_stack.proofs.threads.Threads.go.Goals as goal

pub invariant_of-self : goal.invariant_of-self
invariant_of-self g c =
    rw c.go.ensures (c.self.invariant.0, held-same _ _ _ c.self.inside.trail.undo _ (sym c.is_marked.ensures ∙ c.if-is_marked.false) refl refl c.self.invariant.1)

pub returns : goal.returns
returns g c =
    let trail = notes-trails threads_back 2 _ _ _ _ (free 2 _ _ c.self.inside.trail (sym c.is_marked.ensures ∙ c.if-is_marked.false)) in
    let threads = ap (λ v. threads_in v c.self.inside.below.items) c.go.ensures in
    rw (← c.self.view_is) (record { threads = threads; trail = trail; writes = writes-unmarked 2 _ (sym c.is_marked.ensures ∙ c.if-is_marked.false); stood = stood-noted 2 _ _ trail; spare = spare-noted 2 _ _ trail })

pub go_further-requires : goal.go_further-requires
go_further-requires g c =
    let noted : HasGone (reverse (reverse (trail_of c.self.inside.trail.undo))) = subst (λ es. HasGone (reverse es)) c.pairs.ensures (c.has_gone.ensures c.if-has_gone.true) in
    record { gone = subst (λ v. HasGone (trail_of v.trail.undo)) c.self.view_is (subst HasGone (reverse-reverse (trail_of c.self.inside.trail.undo)) noted) }
