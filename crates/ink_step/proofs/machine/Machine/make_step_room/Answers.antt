use Rattle.std.proofs.Common.{refl}
use Rattle.ink_step.proofs.machine.Machine.make_step_room.Goals as goal

pub returns-clause-mark : goal.returns-clause-mark
returns-clause-mark c = rw (c.ready_threads.ensures.stood, c.ready_stack.ensures.stood) refl
