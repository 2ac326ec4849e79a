use Rattle.ink_effects.proofs.Common.{on_err}
use Rattle.ink_effects.proofs.Rooms.{stack_refused}
use Rattle.ink_effects.proofs.noting.ready_stack.Goals as goal

pub returns-in_err-ready-clause-memory : goal.returns-in_err-ready-clause-memory
returns-in_err-ready-clause-memory c =
    on_err c.from_residual.result (stack_refused c.args.stack.now c.ready.new.self c.args.count c.ready.ensures.stood c.in_err-ready.ensures.err c.in_err-ready.ensures.memory)
