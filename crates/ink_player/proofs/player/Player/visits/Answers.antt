use Rattle.std.proofs.Common.{sym}
use Rattle.ink_player.proofs.Common.{PlayerView, aside_seen, desk_of, story_of, config_of}
use Rattle.ink_player.proofs.Tellings.{visits-free}
use Rattle.ink_player.proofs.player.Player.visits.Goals as goal

pub returns-in-None : goal.returns-in-None
returns-in-None g c =
    let p : PlayerView g.row.P.Denot g.row.F.Denot g.row.O.Denot = record { story = c.self.inside.story; desk = c.self.inside.desk; machine = c.self.inside.machine; broken = c.self.inside.broken } in
    rw (sym c.self.view_is) (visits-free (story_of p) c.args.path.now (config_of (story_of p) p.machine) p.broken (aside_seen p) (desk_of p).next c.visits_by.result c.in-None.is c.visits_by.ensures)
