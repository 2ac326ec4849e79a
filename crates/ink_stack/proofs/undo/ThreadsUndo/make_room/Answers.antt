use Rattle.std.proofs.Common.{refl}
use Rattle.ink_stack.specs.Undo.{threads_spare}
use Rattle.ink_stack.proofs.Backs.{stood-same}
use Rattle.ink_stack.proofs.Holding.{held-as, more-refl}
use Rattle.ink_stack.proofs.undo.ThreadsUndo.make_room.Goals as goal

pub invariant_of-self : goal.invariant_of-self
invariant_of-self g c = (c.self.invariant.0, held-as c.self.inside.trail.undo c.make_room.new.self.undo _ _ _ _ c.make_room.ensures.kept.0 refl (more-refl _) c.self.invariant.1)

pub returns-clause-cells : goal.returns-clause-cells
returns-clause-cells g c = rw (← c.self.view_is) refl

pub returns-clause-kept : goal.returns-clause-kept
returns-clause-kept g c = rw (← c.self.view_is) c.make_room.ensures.kept

pub returns-clause-stood : goal.returns-clause-stood
returns-clause-stood g c = stood-same _ _ (returns-clause-cells g c, returns-clause-kept g c)

pub returns-clause-more : goal.returns-clause-more
unfolding threads_spare
returns-clause-more g c = rw (← c.self.view_is) c.make_room.ensures.more
