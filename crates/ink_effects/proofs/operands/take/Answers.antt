use Rattle.ink_effects.proofs.Tops.{top_taken}
use Rattle.ink_effects.proofs.operands.take.Goals as goal

pub returns-in-Ok-clause-pops : goal.returns-in-Ok-clause-pops
returns-in-Ok-clause-pops c = top_taken _ _ _ c.in-Ok.ensures.items
