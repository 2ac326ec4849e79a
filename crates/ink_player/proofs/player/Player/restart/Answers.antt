use Rattle.std.proofs.Common.{[], ap, sym}
use Rattle.ink_player.proofs.Common.{story_tree, PlayerView, bindings, desk_of, state_of, story_of, config_of, game_of, globals_of}
use Rattle.ink_player.proofs.Restarts.{restart-opened, restart-refused}
use Rattle.ink_player.proofs.Tellings.{globals-by, once-none}
use Rattle.ink_sound.proofs.Sessions.{opened_fits}
use Rattle.ink_player.proofs.Standing.{alone-fits, game-as, opened_alone}
use Rattle.ink_player.proofs.player.Player.restart.Goals as goal

pub returns-in-Ok-clause-does : goal.returns-in-Ok-clause-does
returns-in-Ok-clause-does g c =
    let p : PlayerView g.row.P.Denot g.row.F.Denot g.row.O.Denot = record { story = c.self.inside.story; desk = c.self.inside.desk; machine = c.self.inside.machine; broken = c.self.inside.broken } in
    let s = story_of p in
    let does = rw (sym c.self.view_is) at c.begin_anew.ensures.does in
    rw (sym c.self.view_is) (
      does.0,
      restart-opened s (bindings g.P.PureFn.meaning (desk_of p)) (state_of p) (config_of s c.in-Ok.machine) (globals_of p.machine) does.0 _ _ c.in-Ok.ensures.ok
          (globals-by p.broken (config_of s p.machine)) (game_of s c.in-Ok.machine) (opened_alone s c.in-Ok.machine c.in-Ok.ensures.aside) does.1,
      does.2,
    )

pub returns-in-Err-clause-does : goal.returns-in-Err-clause-does
returns-in-Err-clause-does g c =
    let p : PlayerView g.row.P.Denot g.row.F.Denot g.row.O.Denot = record { story = c.self.inside.story; desk = c.self.inside.desk; machine = c.self.inside.machine; broken = c.self.inside.broken } in
    rw (sym c.self.view_is) (
      [],
      restart-refused (story_of p) (bindings g.P.PureFn.meaning (desk_of p)) (state_of p) c.in-Err.reason c.in-Err.ensures.err.0 c.in-Err.ensures.err.1,
      once-none g.F.TurnFn.log g.O.Watcher.state (desk_of p),
    )

pub begin_anew-requires : goal.begin_anew-requires
begin_anew-requires g c =
    let s = story_tree c.self.inside.story in
    let m = c.in-Ok.machine in
    let sound = (opened_fits s c.self.invariant.story (config_of s m) c.in-Ok.ensures.ok).condition in
    record {
      fits = game-as s (story_of c.args.self.now) m (ap (λ q. story_of q) c.self.view_is) (record { sound = sound.0; rests = sound.1; aside = alone-fits s m c.in-Ok.ensures.aside });
      unmarked = c.in-Ok.ensures.mark;
    }
