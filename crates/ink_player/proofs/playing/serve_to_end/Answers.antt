use Rattle.std.proofs.Common.{◌∙◌, ap, refl, true, Ok, Err}
use Rattle.ink_player.proofs.Common.{MAX_STORY, bindings, after_call, is_read, is_write}
use Rattle.ink_player.proofs.Endings.{ends_from, fails_not}
use Rattle.ink_player.proofs.Playings.{ends_last, no_story, unopened, plays_last, plays_on, plays_short, opens_as}
use Rattle.ink_player.proofs.Sessions.{runs_for}
use Rattle.ink_player.proofs.Failures.{open_failed, open_reads, open_writes, story_failed, story_unwritten}
use Rattle.ink_player.proofs.playing.serve_to_end.Goals as goal

pub returns-in-Err-clause-plays : goal.returns-in-Err-clause-plays
returns-in-Err-clause-plays g c =
    no_story g.F.TurnFn.log g.F.TurnFn.refusals g.O.Watcher.state _ _ _ _ _ _ _ c.in-Err.fault c.fault_of-fault.result c.new-ahead.ensures c.in-Err.ensures.gives c.fault_of-fault.ensures

pub returns-in-Err-open_story-clause-plays : goal.returns-in-Err-open_story-clause-plays
returns-in-Err-open_story-clause-plays g c =
    unopened g.F.TurnFn.log g.F.TurnFn.refusals g.O.Watcher.state _ _ _ _ _ _ _ c.in-Whole.line.items c.in-Err-open_story.end c.new-ahead.ensures (rw c.in-Whole.is at c.in-Ok.ensures.gives)
    (opens_as _ _ (Err c.in-Err-open_story.end) c.deref.ensures.value c.in-Err-open_story.ensures.opens) c.in-Err-open_story.ensures.desk

pub returns-in-Ok-serve_lines-clause-plays : goal.returns-in-Ok-serve_lines-clause-plays
returns-in-Ok-serve_lines-clause-plays g c =
    let begun = c.in-Ok-open_story.ensures.desk in
    plays_on g.F.TurnFn.log g.F.TurnFn.refusals g.O.Watcher.state _ _ _ _ _ _ _ _ _ c.in-Whole.line.items c.in-Ok-open_story.player c.serve_lines.new.player c.new-ahead.ensures (rw c.in-Whole.is at c.in-Ok.ensures.gives)
    (opens_as _ _ (Ok c.in-Ok-open_story.player) c.deref.ensures.value c.in-Ok-open_story.ensures.opens) begun
    (runs_for g.F.TurnFn.log g.F.TurnFn.refusals g.O.Watcher.state _ _ _ _ _ _ _ _ _ _ _ _ (ap (bindings g.P.PureFn.meaning) begun) c.in-Ok-serve_lines.ensures.runs) c.has_no_events.ensures c.in-Ok-serve_lines.ensures.story

pub returns-in-Whole-clause-plays : goal.returns-in-Whole-clause-plays
returns-in-Whole-clause-plays g c =
    let begun = c.in-Ok-open_story.ensures.desk in
    plays_short g.F.TurnFn.log g.F.TurnFn.refusals g.O.Watcher.state _ _ _ _ _ _ _ _ _ c.in-Whole.line.items c.in-Ok-open_story.player _ c.in-Err-serve_lines.fault _ c.new-ahead.ensures (rw c.in-Whole.is at c.in-Ok.ensures.gives)
    (opens_as _ _ (Ok c.in-Ok-open_story.player) c.deref.ensures.value c.in-Ok-open_story.ensures.opens) begun
    (runs_for g.F.TurnFn.log g.F.TurnFn.refusals g.O.Watcher.state _ _ _ _ _ _ _ _ _ _ _ _ (ap (bindings g.P.PureFn.meaning) begun) c.in-Err-serve_lines.ensures.runs) c.close.ensures.taken c.close.ensures.desk

pub returns-clause-plays : goal.returns-clause-plays
returns-clause-plays g c =
    plays_last g.F.TurnFn.log g.F.TurnFn.refusals g.O.Watcher.state _ _ _ _ _ _ _ c.in-Last.line.items c.open_story-in-Last.result c.new-ahead.ensures (rw c.in-Last.is at c.in-Ok.ensures.gives)
    (opens_as _ _ c.open_story-in-Last.result c.deref-in-Last.ensures.value c.open_story-in-Last.ensures.opens) c.open_story-in-Last.ensures.desk

-- ---- how often the source was at its end

pub returns-in-Err-clause-ends : goal.returns-in-Err-clause-ends
returns-in-Err-clause-ends g c = fails_not _ _ c.fault_of-fault.result _ _ c.in-Err.ensures.ends

pub returns-in-Err-open_story-clause-ends : goal.returns-in-Err-open_story-clause-ends
returns-in-Err-open_story-clause-ends g c = fails_not _ _ c.in-Err-open_story.end.fault _ _ (rw c.in-Whole.is at c.in-Ok.ensures.ends)

pub returns-in-Ok-serve_lines-clause-ends : goal.returns-in-Ok-serve_lines-clause-ends
returns-in-Ok-serve_lines-clause-ends g c = c.in-Ok-serve_lines.ensures.ends ∙ ap (after_call true) (rw c.in-Whole.is at c.in-Ok.ensures.ends)

pub returns-in-Whole-clause-ends : goal.returns-in-Whole-clause-ends
returns-in-Whole-clause-ends g c = ends_from c.in-Err-serve_lines.fault _ _ _ (rw c.in-Whole.is at c.in-Ok.ensures.ends) c.in-Err-serve_lines.ensures.ends

pub returns-clause-ends : goal.returns-clause-ends
returns-clause-ends g c =
    ends_last _ _ _ _ c.in-Last.line.items c.open_story-in-Last.result _ _ c.new-ahead.ensures (rw c.in-Last.is at c.in-Ok.ensures.gives)
    (opens_as _ _ c.open_story-in-Last.result c.deref-in-Last.ensures.value c.open_story-in-Last.ensures.opens) (rw c.in-Last.is at c.in-Ok.ensures.ends)

-- ---- whose failure it was

pub returns-in-Err-clause-source : goal.returns-in-Err-clause-source
returns-in-Err-clause-source g c = story_failed c.in-Err.fault c.fault_of-fault.result _ _ _ _ c.fault_of-fault.ensures c.in-Err.ensures.cause c.in-Err.ensures.name

pub returns-in-Err-clause-sink : goal.returns-in-Err-clause-sink
returns-in-Err-clause-sink g c = story_unwritten _ _ _ _ MAX_STORY c.in-Err.fault c.fault_of-fault.result _ _ c.fault_of-fault.ensures c.in-Err.ensures.gives

pub returns-in-Err-open_story-clause-source : goal.returns-in-Err-open_story-clause-source
returns-in-Err-open_story-clause-source g c = open_failed is_read _ c.in-Err-open_story.end.fault _ _ _ _ c.in-Err-open_story.ensures.opens c.in-Ok.ensures.cause c.in-Ok.ensures.name

pub returns-in-Err-open_story-clause-sink : goal.returns-in-Err-open_story-clause-sink
returns-in-Err-open_story-clause-sink g c = open_failed is_write _ c.in-Err-open_story.end.fault _ _ _ _ c.in-Err-open_story.ensures.opens refl refl

pub returns-clause-source : goal.returns-clause-source
returns-clause-source g c = open_reads _ c.open_story-in-Last.result _ _ _ _ c.open_story-in-Last.ensures.opens c.in-Ok.ensures.cause c.in-Ok.ensures.name

pub returns-clause-sink : goal.returns-clause-sink
returns-clause-sink g c = open_writes _ c.open_story-in-Last.result _ _ _ _ c.open_story-in-Last.ensures.opens refl refl
