use Rattle.ink_effects.proofs.Puts.{one_dropped}
use Rattle.ink_effects.proofs.operands.drop_top.Goals as goal

pub returns-clause-dropped : goal.returns-clause-dropped
returns-clause-dropped c = one_dropped _ _ c.drop_top.ensures.items
