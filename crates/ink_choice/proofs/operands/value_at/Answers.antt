use Rattle.std.proofs.Common.{reverse}
use Rattle.ink_choice.proofs.Depths.{drop_found}
use Rattle.ink_choice.proofs.operands.value_at.Goals as goal

pub returns-in-Ok-clause-value : goal.returns-in-Ok-clause-value
returns-in-Ok-clause-value c = drop_found (reverse c.args.stack.now.items) c.args.depth c.in-Ok.value.now c.in-Ok.ensures
