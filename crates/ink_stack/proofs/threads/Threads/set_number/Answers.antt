use Rattle.std.proofs.Common.{◌∙◌, ap, refl, sym}
use Rattle.ink_stack.specs.Running.{threads_in}
use Rattle.ink_stack.proofs.Backs.{spare-of, stood-of}
use Rattle.ink_stack.proofs.Holding.{held-same}
use Rattle.ink_stack.proofs.Unmarked.{free}
use Rattle.ink_stack.proofs.threads.Threads.set_number.Goals as goal

pub invariant_of-self : goal.invariant_of-self
invariant_of-self g c =
    rw c.set_number.ensures (c.self.invariant.0, held-same _ _ _ c.self.inside.trail.undo _ (sym c.is_marked.ensures ∙ c.if-is_marked.false) refl refl c.self.invariant.1)

pub returns : goal.returns
returns g c =
    let trail = free 1 _ _ c.self.inside.trail (sym c.is_marked.ensures ∙ c.if-is_marked.false) in
    let threads = ap (λ v. threads_in v c.self.inside.below.items) c.set_number.ensures in
    rw (← c.self.view_is) (record { threads = threads; trail = trail; stood = stood-of 1 _ _ trail; spare = spare-of 1 _ _ trail })
