use Rattle.std.proofs.Common.{sym}
use Rattle.ink_player.proofs.Common.{null, PlayerView, aside_seen, desk_of, story_of, config_of}
use Rattle.ink_player.proofs.Saves.{saves-broken, text-back, text-only, text-reads, texts-free}
use Rattle.ink_player.proofs.player.Player.save_text.Goals as goal

pub returns-in-Some-clause-does : goal.returns-in-Some-clause-does
returns-in-Some-clause-does g c =
    let p : PlayerView g.row.P.Denot g.row.F.Denot g.row.O.Denot = record { story = c.self.inside.story; desk = c.self.inside.desk; machine = c.self.inside.machine; broken = c.self.inside.broken } in
    rw (sym c.self.view_is) (null, tt, saves-broken (config_of (story_of p) p.machine) (aside_seen p) p.broken (desk_of p).next c.in-Some.why c.in-Some.is)

pub returns-in-None-clause-does : goal.returns-in-None-clause-does
returns-in-None-clause-does g c =
    let p : PlayerView g.row.P.Denot g.row.F.Denot g.row.O.Denot = record { story = c.self.inside.story; desk = c.self.inside.desk; machine = c.self.inside.machine; broken = c.self.inside.broken } in
    rw (sym c.self.view_is) (texts-free (config_of (story_of p) p.machine) (aside_seen p) p.broken (desk_of p).next c.saved_text.result c.in-None.is c.saved_text.ensures)

pub returns-in-None-clause-reads : goal.returns-in-None-clause-reads
returns-in-None-clause-reads g c =
    let p : PlayerView g.row.P.Denot g.row.F.Denot g.row.O.Denot = record { story = c.self.inside.story; desk = c.self.inside.desk; machine = c.self.inside.machine; broken = c.self.inside.broken } in
    rw (sym c.self.view_is) (text-reads (config_of (story_of p) p.machine) (aside_seen p) (story_of p) p.broken (desk_of p).next c.saved_text.result c.in-None.is c.saved_text.ensures c.self.invariant.fits c.self.invariant.aside)

pub returns-in-None-clause-reads_back : goal.returns-in-None-clause-reads_back
returns-in-None-clause-reads_back g c =
    let p : PlayerView g.row.P.Denot g.row.F.Denot g.row.O.Denot = record { story = c.self.inside.story; desk = c.self.inside.desk; machine = c.self.inside.machine; broken = c.self.inside.broken } in
    rw (sym c.self.view_is) (text-back (config_of (story_of p) p.machine) (aside_seen p) (story_of p) p.broken (desk_of p).next c.saved_text.result c.in-None.is c.saved_text.ensures c.self.invariant.story c.self.invariant.fits c.self.invariant.aside)

pub returns-in-None-clause-only : goal.returns-in-None-clause-only
returns-in-None-clause-only g c =
    let p : PlayerView g.row.P.Denot g.row.F.Denot g.row.O.Denot = record { story = c.self.inside.story; desk = c.self.inside.desk; machine = c.self.inside.machine; broken = c.self.inside.broken } in
    rw (sym c.self.view_is) (text-only (config_of (story_of p) p.machine) (aside_seen p) (story_of p) p.broken (desk_of p).next c.saved_text.result c.in-None.is c.saved_text.ensures)
