use Rattle.ink_out.proofs.Closing.{any_turned}
use Rattle.std.proofs.Common.{sym}
use Rattle.ink_out.proofs.output.has_string.Goals as goal

pub loop-section-init : goal.loop-section-init
loop-section-init c = sym (any_turned c.args.sections.now)
