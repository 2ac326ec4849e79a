use Rattle.std.proofs.Common.{arith}
use Rattle.std.proofs.lemmas.List.{length-reverse}
use Rattle.ink_stack.proofs.running.Running.within.Goals as goal

pub returns : goal.returns
returns g c =
    rw (← c.self.view_is) (record {
      few = omega (arith, length-reverse c.self.inside.below.items, c.self.invariant.0);
      fit = c.within.ensures;
      base = c.self.invariant.2;
    })
