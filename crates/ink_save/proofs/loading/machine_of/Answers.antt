use Rattle.std.proofs.Common.{rules}
use Rattle.ink_save.proofs.loading.machine_of.Goals as goal

pub returns-clause-game : goal.returns-clause-game
returns-clause-game c = λ s own. search rules
