use Rattle.std.proofs.Common.{◌≡◌}
use Rattle.ink_step.proofs.Common.{log_of, story_tree, stood_of, aside_in, config_of, start_of}
use Rattle.ink_effects.specs.Refusals.{KeepsRefusals}
use Rattle.ink_step.proofs.Runnings.{Ran}
use Rattle.ink_step.specs.Marks.{NotesOwn}
use Rattle.ink_step.proofs.machine.Machine.run.Given as goal

-- the run got here and has not ended
abbrev pub invariant-loop-step : goal.invariant-loop-step
invariant-loop-step g l =
    let s = story_tree l.story in
    record {
      ran : Ran g.T.TurnFn.log (log_of g.W.Watcher.state) g.P.PureFn.meaning s l.initial.desk (config_of s l.initial.self) l._step l.desk (config_of s l.self);
      watchers : l.desk.watchers ≡ l.initial.desk.watchers;
      refusals : KeepsRefusals g.T.TurnFn.refusals l.initial.desk l.desk;
      start : start_of l.self ≡ start_of l.initial.self;
      own : NotesOwn l._step l.initial.self.trail l.self.trail;
      aside : aside_in l.self ≡ aside_in l.initial.self;
      mark : stood_of l.self ≡ stood_of l.initial.self;
    }
