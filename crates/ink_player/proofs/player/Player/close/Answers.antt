use Rattle.ink_player.proofs.Tellings.{none-left}
use Rattle.ink_player.proofs.player.Player.close.Goals as goal

pub returns-clause-taken : goal.returns-clause-taken
returns-clause-taken g c = none-left c.self.inside.desk.events c.self.invariant.taken
