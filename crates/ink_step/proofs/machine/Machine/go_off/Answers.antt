use Rattle.std.proofs.Common.{refl}
use Rattle.ink_step.proofs.machine.Machine.go_off.Goals as goal

pub returns-clause-mark : goal.returns-clause-mark
returns-clause-mark c = rw (c.move_off.ensures.threads_mark, c.move_off.ensures.stack_mark, c.move_off.ensures.output_mark) refl
