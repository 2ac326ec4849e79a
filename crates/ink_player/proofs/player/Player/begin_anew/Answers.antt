use Rattle.std.proofs.Common.{None, ap, refl, subst, sym}
use Rattle.ink_player.proofs.Common.{DeskView, reply_of_events, story_tree, PlayerView, Stands, aside_seen, is_empty, condition_by, desk_of, story_of, config_of}
use Rattle.ink_player.proofs.Anew.{begun-anew}
use Rattle.ink_player.proofs.Tellings.{tells-kept}
use Rattle.ink_player.proofs.Standing.{game-as, stands-told}
use Rattle.ink_player.proofs.player.Player.begin_anew.Goals as goal

pub returns-in_default-clause-does : goal.returns-in_default-clause-does
returns-in_default-clause-does g c =
    let p : PlayerView g.row.P.Denot g.row.F.Denot g.row.O.Denot = record { story = c.self.inside.story; desk = c.self.inside.desk; machine = c.self.inside.machine; broken = c.self.inside.broken } in
    rw (sym c.self.view_is) (tells-kept g.F.TurnFn.log g.O.Watcher.state _ (condition_by p.broken (config_of (story_of p) p.machine)) (aside_seen p)
    (desk_of p) c.tell_between.new.desk c.in_default.ensures.tells.0 c.in_default.ensures.tells.1)

pub returns-clause-does : goal.returns-clause-does
returns-clause-does g c =
    let p : PlayerView g.row.P.Denot g.row.F.Denot g.row.O.Denot = record { story = c.self.inside.story; desk = c.self.inside.desk; machine = c.self.inside.machine; broken = c.self.inside.broken } in
    rw (sym c.self.view_is) (begun-anew g.F.TurnFn.log g.O.Watcher.state p c.args.machine c.tell_between.new.desk c.end_telling.new.desk c.end_telling.new.broken c.in-Ok.all
    (reply_of_events c.end_telling.result) c.self.invariant.taken c.in-Ok.ensures.tells c.end_telling.ensures.reply c.end_telling.ensures.broken c.end_telling.ensures.desk)

pub invariant_of-self : goal.invariant_of-self
invariant_of-self g c =
    subst (λ (d : DeskView g.row.P.Denot g.row.F.Denot g.row.O.Denot). Stands (story_tree c.self.inside.story) d.events c.self.inside.broken c.self.inside.machine) (sym c.in_default.ensures.tells.1) c.self.invariant

pub invariant_of-self-2 : goal.invariant_of-self-2
invariant_of-self-2 g c =
    let s = story_tree c.self.inside.story in
    let fits = game-as (story_of c.args.self.now) s c.args.machine (ap (λ q. story_of q) (sym c.self.view_is)) c.requires.fits in
    stands-told s c.self.invariant.story c.self.invariant.opens c.args.machine c.end_telling.new.desk.events c.in-Ok.all c.end_telling.new.broken None (ap (λ d. is_empty d.events) c.end_telling.ensures.desk) refl c.end_telling.ensures.broken c.requires.unmarked
    (fits.sound, fits.rests) fits.aside
