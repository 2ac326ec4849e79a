use Rattle.ink_effects.proofs.Tops.{lent_top}
use Rattle.ink_effects.proofs.operands.top.Goals as goal

pub returns-in-Ok : goal.returns-in-Ok
returns-in-Ok c = lent_top c.args.stack.now.items _ c.in-Ok.ensures
