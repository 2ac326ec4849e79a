use Rattle.std.proofs.Common.{arith, refl}
use Rattle.ink_stack.proofs.Keeping.{kept_fewer}
use Rattle.ink_stack.proofs.running.Running.unpush.Goals as goal

pub invariant_of-self : goal.invariant_of-self
invariant_of-self g c =
    kept_fewer c.in-Some.under.kind c.self.inside.frame.kind c.in-Some.under c.pop.new.self.items c.self.inside.below.items c.self.inside.quiet c.quiet_below-self-inside.result c.min-self-inside.result c.self.inside.settled
    refl c.in-Some.ensures.items c.quiet_below-self-inside.ensures (omega arith) (omega (arith, c.len.ensures)) c.self.invariant
