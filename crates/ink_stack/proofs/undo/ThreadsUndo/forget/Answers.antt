use Rattle.ink_trail.specs.Undo.{trail_of}
use Rattle.ink_stack.proofs.Holding.{held-now}
use Rattle.ink_stack.proofs.undo.ThreadsUndo.forget.Goals as goal

pub invariant_of-self : goal.invariant_of-self
invariant_of-self g c = rw c.forget.ensures.0 (c.self.invariant.0, held-now _ (trail_of c.self.inside.trail.undo) _ c.self.invariant.1)
