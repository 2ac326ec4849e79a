use Rattle.std.proofs.Common.{◌∙◌, ap, refl, true, Ok, Err}
use Rattle.ink_player.proofs.Common.{command_of, after_call, is_read, is_write, scene_of}
use Rattle.ink_player.proofs.Dealing.{command_binds}
use Rattle.ink_player.proofs.Endings.{ends_from}
use Rattle.ink_player.proofs.Sessions.{runs_more}
use Rattle.ink_player.proofs.session.serve_lines.Goals as goal

pub lines-init : goal.lines-init
lines-init g c = record {
  ends = λ left held new r p. p;
  rest = λ rest. rest;
  story = refl;
  read_cause = refl;
  read_ends = refl;
  write_cause = refl;
  source_name = refl;
  sink_name = refl;
}

pub lines-preserved : goal.lines-preserved
lines-preserved g c =
    let served = rw c.in-Ok-More.field-0-is at c.in-Ok-More.ensures.next in
    let before = c.lines.invariant in
    let after = c.in-Ok-More.ensures in
    let line = served.answered.serves in
    let binds = command_binds g.F.TurnFn.log g.O.Watcher.state g.P.PureFn.meaning (command_of served.line) (scene_of c.lines.player) line.events served.answered.reply (scene_of c.serve_line.new.player) line.dealt.0 in record {
      ends = λ left held new r p. before.ends left held new r (runs_more g.F.TurnFn.log g.F.TurnFn.refusals g.O.Watcher.state _ _ _ _ _ _ _ _ _ _ _ _ _ _ _ r served after.story binds p);
      rest = λ rest. after.rest (before.rest rest);
      story = after.story ∙ before.story;
      read_cause = after.source.0 ∙ before.read_cause;
      read_ends = rw c.in-Ok-More.field-0-is at after.ends ∙ before.read_ends;
      write_cause = after.sink.0 ∙ before.write_cause;
      source_name = after.source.1 ∙ before.source_name;
      sink_name = after.sink.1 ∙ before.sink_name;
    }

pub returns-in-Ok-Done-clause-runs : goal.returns-in-Ok-Done-clause-runs
returns-in-Ok-Done-clause-runs g c = c.lines.invariant.ends _ _ _ (Ok tt) (rw c.in-Ok-Done.field-0-is at c.in-Ok-Done.ensures.next)

pub returns-in-Err-clause-runs : goal.returns-in-Err-clause-runs
returns-in-Err-clause-runs g c = c.lines.invariant.ends _ _ _ (Err c.in-Err.fault) c.in-Err.ensures.next

pub returns-in-Ok-Done-clause-ends : goal.returns-in-Ok-Done-clause-ends
returns-in-Ok-Done-clause-ends g c = rw c.in-Ok-Done.field-0-is at c.in-Ok-Done.ensures.ends ∙ ap (after_call true) c.lines.invariant.read_ends

pub returns-in-Err-clause-ends : goal.returns-in-Err-clause-ends
returns-in-Err-clause-ends g c = ends_from c.in-Err.fault _ _ _ c.lines.invariant.read_ends c.in-Err.ensures.ends

-- ---- what is as it was, and whose failure it was

pub returns-in-Ok-Done-clause-rest : goal.returns-in-Ok-Done-clause-rest
returns-in-Ok-Done-clause-rest g c = λ rest. c.in-Ok-Done.ensures.rest (c.lines.invariant.rest rest)

pub returns-in-Err-clause-rest : goal.returns-in-Err-clause-rest
returns-in-Err-clause-rest g c = λ rest. c.in-Err.ensures.rest (c.lines.invariant.rest rest)

pub returns-in-Ok-Done-clause-source : goal.returns-in-Ok-Done-clause-source
returns-in-Ok-Done-clause-source g c = (c.in-Ok-Done.ensures.source.0 ∙ c.lines.invariant.read_cause, c.in-Ok-Done.ensures.source.1 ∙ c.lines.invariant.source_name)

pub returns-in-Err-clause-source : goal.returns-in-Err-clause-source
returns-in-Err-clause-source g c = (c.in-Err.ensures.source.0 ∙ ap (after_call (is_read c.in-Err.fault)) c.lines.invariant.read_cause, c.in-Err.ensures.source.1 ∙ c.lines.invariant.source_name)

pub returns-in-Ok-Done-clause-sink : goal.returns-in-Ok-Done-clause-sink
returns-in-Ok-Done-clause-sink g c = (c.in-Ok-Done.ensures.sink.0 ∙ c.lines.invariant.write_cause, c.in-Ok-Done.ensures.sink.1 ∙ c.lines.invariant.sink_name)

pub returns-in-Err-clause-sink : goal.returns-in-Err-clause-sink
returns-in-Err-clause-sink g c = (c.in-Err.ensures.sink.0 ∙ ap (after_call (is_write c.in-Err.fault)) c.lines.invariant.write_cause, c.in-Err.ensures.sink.1 ∙ c.lines.invariant.sink_name)
