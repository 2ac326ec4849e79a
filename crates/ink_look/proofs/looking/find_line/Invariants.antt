use Rattle.std.proofs.Common.{◌≡◌}
use Rattle.ink_look.proofs.Common.{story_tree, log_of, config_back}
use Rattle.ink_look.specs.Looking.{Waits, search_at}
use Rattle.ink_look.proofs.Searches.{Ran}
use Rattle.ink_look.proofs.looking.find_line.Given as goal
use Rattle.ink_effects.specs.Refusals.{KeepsRefusals}
use Rattle.ink_step.specs.Standing.{aside_in, config_of, start_of}

-- the search got here and is not over
abbrev pub invariant-loop-step : goal.invariant-loop-step
invariant-loop-step g l =
    let s = story_tree l.story in
    record {
      ran : Ran g.F.TurnFn.log (log_of g.O.Watcher.state) g.P.PureFn.meaning s l.initial.desk (config_of s l.initial.machine) l._step l.desk
          (search_at l.waiting (config_back s l.machine) (config_of s l.machine));
      watchers : l.desk.watchers ≡ l.initial.desk.watchers;
      refusals : KeepsRefusals g.F.TurnFn.refusals l.initial.desk l.desk;
      start : start_of l.machine ≡ start_of l.initial.machine;
      aside : aside_in l.machine ≡ aside_in l.initial.machine;
      waits : Waits l.waiting l.machine;
    }
