use Rattle.std.proofs.Common.{◌∙◌, [], sym}
use Rattle.ink_player.proofs.Common.{Refuses, command_of, scene_of}
use Rattle.ink_model.specs.declared.fault.Refusal.TheVariants as refusal
use Rattle.ink_player.proofs.Dealing.{untouched}
use Rattle.ink_player.proofs.Sessions.{answered_by, serves_unread}
use Rattle.ink_player.proofs.session.answer_line.Goals as goal

pub returns-in-Some-clause-answers : goal.returns-in-Some-clause-answers
returns-in-Some-clause-answers g c = c.answer_run.ensures.answers c.args.line.now (sym c.in-Some.ensures.some ∙ c.in-Ok.ensures.command)

pub returns-in-None-clause-answers : goal.returns-in-None-clause-answers
returns-in-None-clause-answers g c = c.answer_command.ensures.answers c.args.line.now c.in-Ok.ensures.command

pub returns-in-Err-clause-answers : goal.returns-in-Err-clause-answers
returns-in-Err-clause-answers g c =
    answered_by g.F.TurnFn.log g.F.TurnFn.refusals g.O.Watcher.state _ _ _ _ _ _ _ c.refuse_line.result (Refuses refusal.OutOfMemory) (record {
      events = [];
      serves = serves_unread _ _ _ _ c.in-Err.ensures.memory;
      dealt = untouched g.F.TurnFn.log g.F.TurnFn.refusals g.O.Watcher.state (command_of c.args.line.now) (scene_of c.args.player.now) refusal.OutOfMemory;
    }) c.refuse_line.ensures.told
