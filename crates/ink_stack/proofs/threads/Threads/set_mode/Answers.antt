use Rattle.std.proofs.Common.{◌∙◌, ap, refl, sym}
use Rattle.ink_stack.proofs.Common.{notes-trails, threads_in, threads_back}
use Rattle.ink_stack.proofs.Backs.{spare-noted, stood-noted}
use Rattle.ink_stack.proofs.Counting.{writes-unmarked}
use Rattle.ink_stack.proofs.Holding.{held-same}
use Rattle.ink_stack.proofs.Unmarked.{free}
use Rattle.ink_stack.proofs.threads.Threads.set_mode.Goals as goal

pub invariant_of-self : goal.invariant_of-self
invariant_of-self g c =
    rw c.set_mode.ensures (c.self.invariant.0, held-same _ _ _ c.self.inside.trail.undo _ (sym c.is_marked.ensures ∙ c.if-is_marked.false) refl refl c.self.invariant.1)

pub returns : goal.returns
returns g c =
    let trail = notes-trails threads_back 1 _ _ _ _ (free 1 _ _ c.self.inside.trail (sym c.is_marked.ensures ∙ c.if-is_marked.false)) in
    let threads = ap (λ v. threads_in v c.self.inside.below.items) c.set_mode.ensures in
    rw (← c.self.view_is) (record { threads = threads; trail = trail; writes = writes-unmarked 1 _ (sym c.is_marked.ensures ∙ c.if-is_marked.false); stood = stood-noted 1 _ _ trail; spare = spare-noted 1 _ _ trail })
