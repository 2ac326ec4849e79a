use Rattle.std.proofs.Common.{refl}
use Rattle.ink_step.proofs.machine.Machine.go_on.Goals as goal

pub returns-clause-mark : goal.returns-clause-mark
returns-clause-mark c = rw (c.move_on.ensures.threads_mark, c.move_on.ensures.stack_mark, c.move_on.ensures.output_mark) refl
