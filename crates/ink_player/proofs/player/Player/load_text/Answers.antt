use Rattle.std.proofs.Common.{[], Err, IfOk, ap, subst, sym}
use Rattle.ink_player.proofs.Common.{story_tree, reply_of_events, TextReadsAsState, PlayerView, bindings, desk_of, state_of, story_of, config_of, game_of, globals_of}
use Rattle.ink_player.specs.Saving.{FindsText}
use Rattle.ink_player.proofs.Saves.{load-read}
use Rattle.ink_player.proofs.Standing.{game-as}
use Rattle.ink_player.proofs.Tellings.{globals-by, once-none}
use Rattle.ink_player.proofs.Texts.{refused-reads, text-found, text-loads, text-reads, text-refused, text-stands}
use Rattle.ink_player.proofs.player.Player.load_text.Goals as goal

pub returns-in-Ok-clause-does : goal.returns-in-Ok-clause-does
returns-in-Ok-clause-does g c =
    let p : PlayerView g.row.P.Denot g.row.F.Denot g.row.O.Denot = record { story = c.self.inside.story; desk = c.self.inside.desk; machine = c.self.inside.machine; broken = c.self.inside.broken } in
    let s = story_of p in
    let found = text-found s c.args.text.now c.in-Ok.spelled c.in-Ok.ensures.finds in
    let does = rw (sym c.self.view_is) at c.begin_anew.ensures.does in
    rw (sym c.self.view_is) (
      does.0,
      text-loads s c.args.text.now (bindings g.P.PureFn.meaning (desk_of p)) (state_of p) found.0 does.0 (reply_of_events c.begin_anew.result) (state_of c.begin_anew.new.self) found.1
          (load-read s (bindings g.P.PureFn.meaning (desk_of p)) found.0 (state_of p) (game_of s c.in-Ok.spelled) (globals_of p.machine) does.0 _ _ found.2 (globals-by p.broken (config_of s p.machine)) does.1),
      does.2,
    )

pub returns-in-Err-clause-does : goal.returns-in-Err-clause-does
returns-in-Err-clause-does g c =
    let p : PlayerView g.row.P.Denot g.row.F.Denot g.row.O.Denot = record { story = c.self.inside.story; desk = c.self.inside.desk; machine = c.self.inside.machine; broken = c.self.inside.broken } in
    rw (sym c.self.view_is) (
      [],
      text-refused (story_of p) c.args.text.now (bindings g.P.PureFn.meaning (desk_of p)) (state_of p) c.in-Err.cause c.in-Err.ensures.finds,
      once-none g.F.TurnFn.log g.O.Watcher.state (desk_of p),
    )

pub begin_anew-requires : goal.begin_anew-requires
begin_anew-requires g c =
    let found = text-found (story_tree c.self.inside.story) c.args.text.now c.in-Ok.spelled c.in-Ok.ensures.finds in
    record {
      fits = game-as (story_tree c.self.inside.story) (story_of c.args.self.now) c.in-Ok.spelled (ap (λ q. story_of q) c.self.view_is) found.2.stands;
      unmarked = c.in-Ok.ensures.mark;
    }

pub returns-in-Ok-clause-stands : goal.returns-in-Ok-clause-stands
returns-in-Ok-clause-stands g c =
    let p = c.args.self.now in
    let new = state_of c.begin_anew.new.self in
    let found = text-found (story_of p) c.args.text.now c.in-Ok.spelled (rw (sym c.self.view_is) c.in-Ok.ensures.finds) in
    let does = returns-in-Ok-clause-does g c in
    subst (λ s. IfOk c.begin_anew.result (λ events. TextReadsAsState s c.args.text.now new)) (sym c.begin_anew.ensures.story)
    (text-stands (story_of p) c.args.text.now (bindings g.P.PureFn.meaning (desk_of p)) (state_of p) found.0 found.1 does.0 c.begin_anew.result new does.1)

pub returns-in-Ok-clause-reads : goal.returns-in-Ok-clause-reads
returns-in-Ok-clause-reads g c = λ x reads.
    let p = c.args.self.now in
    let found = text-found (story_of p) c.args.text.now c.in-Ok.spelled (rw (sym c.self.view_is) c.in-Ok.ensures.finds) in
    let does = returns-in-Ok-clause-does g c in
    text-reads (story_of p) c.args.text.now (bindings g.P.PureFn.meaning (desk_of p)) (state_of p) found.0 found.1 does.0 (reply_of_events c.begin_anew.result) (state_of c.begin_anew.new.self)
    (rw (sym c.self.view_is) c.self.invariant.story) does.1 x reads

pub returns-in-Err-clause-reads : goal.returns-in-Err-clause-reads
returns-in-Err-clause-reads g c = λ x reads.
    let p = c.args.self.now in
    refused-reads (story_of p) c.args.text.now x c.in-Err.cause (state_of p) (subst (λ q. FindsText (story_of q) c.args.text.now (Err c.in-Err.cause)) c.self.view_is c.in-Err.ensures.finds) reads
