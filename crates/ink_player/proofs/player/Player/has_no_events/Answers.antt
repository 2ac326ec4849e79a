use Rattle.std.proofs.Common.{◌∙◌, ap, sym}
use Rattle.ink_player.proofs.Tellings.{none-left}
use Rattle.ink_player.proofs.player.Player.has_no_events.Goals as goal

pub returns : goal.returns
returns g c = sym (ap (λ p. p.desk.events) c.self.view_is) ∙ none-left c.self.inside.desk.events c.self.invariant.taken
