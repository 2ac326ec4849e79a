use Rattle.std.proofs.Common.{inr}
use Rattle.ink_stack.proofs.Reversing.{some_reversed}
use Rattle.ink_stack.proofs.running.Running.fork_over.Goals as goal

pub returns-in_default-clone_over-clause-memory : goal.returns-in_default-clone_over-clause-memory
returns-in_default-clone_over-clause-memory g c = inr (rw (← c.self.view_is) (some_reversed _ c.in_default-clone_over.ensures.memory))
