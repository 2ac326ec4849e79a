use Rattle.std.proofs.lemmas.Result.{on_err_weaker}
use Rattle.ink_stack.proofs.Reversing.{some_reversed}
use Rattle.ink_stack.proofs.running.Running.below.Goals as goal

pub returns-clause-memory : goal.returns-clause-memory
returns-clause-memory g c = rw (← c.self.view_is) (on_err_weaker c.list.result (some_reversed c.self.inside.below.items) c.list.ensures.memory)
