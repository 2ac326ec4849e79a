use Rattle.std.proofs.Common.{subst}
use Rattle.ink_protocol.specs.Replies.{reply_by}
use Rattle.ink_player.specs.Standing.{DeliveredOf, scene_of}
use Rattle.ink_player.proofs.Sessions.{answered_by, serves_command}
use Rattle.ink_player.proofs.session.answer_command.Goals as goal

pub returns-clause-answers : goal.returns-clause-answers
returns-clause-answers g c line is =
    let does = c.perform-outcome.ensures.does in
    let reply = reply_by does.1 c.perform-outcome.result in
    let old = scene_of c.args.player.now in
    let new = scene_of c.perform-outcome.new.player in
    answered_by g.F.TurnFn.log g.F.TurnFn.refusals g.O.Watcher.state _ _ _ _ _ _ _ c.tell.result reply (record {
      events = does.0;
      serves = serves_command _ _ _ _ _ _ _ is does.0 does.3;
      dealt = subst (λ k. DeliveredOf g.F.TurnFn.log g.F.TurnFn.refusals g.O.Watcher.state k old does.0 reply new) is does.4;
    }) (c.tell.ensures.told does.1 does.2)
