use Rattle.std.proofs.Common.{sym}
use Rattle.ink_player.proofs.Common.{PlayerView, aside_seen, desk_of, story_of, config_of}
use Rattle.ink_player.proofs.Saves.{plain-save, save-only, save-reads, saves-broken, saves-free}
use Rattle.ink_player.proofs.player.Player.save.Goals as goal

pub returns-in-Some-clause-does : goal.returns-in-Some-clause-does
returns-in-Some-clause-does g c =
    let p : PlayerView g.row.P.Denot g.row.F.Denot g.row.O.Denot = record { story = c.self.inside.story; desk = c.self.inside.desk; machine = c.self.inside.machine; broken = c.self.inside.broken } in
    rw (sym c.self.view_is) (saves-broken (config_of (story_of p) p.machine) (aside_seen p) p.broken (desk_of p).next c.in-Some.cause c.in-Some.is)

pub returns-in-None-clause-does : goal.returns-in-None-clause-does
returns-in-None-clause-does g c =
    let p : PlayerView g.row.P.Denot g.row.F.Denot g.row.O.Denot = record { story = c.self.inside.story; desk = c.self.inside.desk; machine = c.self.inside.machine; broken = c.self.inside.broken } in
    rw (sym c.self.view_is) (saves-free (config_of (story_of p) p.machine) (aside_seen p) p.broken (desk_of p).next c.saved.result c.in-None.is c.saved.ensures)

pub returns-in-None-clause-plain : goal.returns-in-None-clause-plain
returns-in-None-clause-plain g c =
    let p : PlayerView g.row.P.Denot g.row.F.Denot g.row.O.Denot = record { story = c.self.inside.story; desk = c.self.inside.desk; machine = c.self.inside.machine; broken = c.self.inside.broken } in
    plain-save (config_of (story_of p) p.machine) (aside_seen p) c.saved.result c.saved.ensures

pub returns-in-None-clause-reads : goal.returns-in-None-clause-reads
returns-in-None-clause-reads g c =
    let p : PlayerView g.row.P.Denot g.row.F.Denot g.row.O.Denot = record { story = c.self.inside.story; desk = c.self.inside.desk; machine = c.self.inside.machine; broken = c.self.inside.broken } in
    rw (sym c.self.view_is) (save-reads (config_of (story_of p) p.machine) (aside_seen p) (story_of p) p.broken (desk_of p).next c.saved.result c.in-None.is c.saved.ensures c.self.invariant.fits c.self.invariant.aside)

pub returns-in-None-clause-only : goal.returns-in-None-clause-only
returns-in-None-clause-only g c =
    let p : PlayerView g.row.P.Denot g.row.F.Denot g.row.O.Denot = record { story = c.self.inside.story; desk = c.self.inside.desk; machine = c.self.inside.machine; broken = c.self.inside.broken } in
    rw (sym c.self.view_is) (save-only (config_of (story_of p) p.machine) (aside_seen p) (story_of p) p.broken (desk_of p).next c.saved.result c.in-None.is c.saved.ensures)
