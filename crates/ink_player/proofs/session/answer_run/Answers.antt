use Rattle.ink_model.specs.Protocol.Answer.{Tells, reply_of_halt}
use Rattle.ink_player.proofs.Sessions.{answered_by, runs_by}
use Rattle.ink_player.proofs.session.answer_run.Goals as goal

-- the player is as it was before its passage came back
pub returns-in-Ok-clause-answers : goal.returns-in-Ok-clause-answers
returns-in-Ok-clause-answers g c line is =
    let does = c.in-Ok.ensures.does in
    rw c.tell_passage.ensures.same
    (answered_by g.F.TurnFn.log g.F.TurnFn.refusals g.O.Watcher.state _ _ _ _ _ _ _ c.tell_passage.result (Tells c.in-Ok.passage)
    (runs_by g.F.TurnFn.log g.F.TurnFn.refusals g.O.Watcher.state _ _ c.args.extent line does.0 _ _ _ is does.1 does.2 c.in-Ok.ensures.refusals) c.tell_passage.ensures.told)

pub returns-in-Err-clause-answers : goal.returns-in-Err-clause-answers
returns-in-Err-clause-answers g c line is =
    let does = c.in-Err.ensures.does in
    answered_by g.F.TurnFn.log g.F.TurnFn.refusals g.O.Watcher.state _ _ _ _ _ _ _ c.tell_halt.result (reply_of_halt c.in-Err.halt)
    (runs_by g.F.TurnFn.log g.F.TurnFn.refusals g.O.Watcher.state _ _ c.args.extent line does.0 _ _ _ is does.1 does.2 c.in-Err.ensures.refusals) c.tell_halt.ensures.told
