use Rattle.std.proofs.Common.{◌∙◌, ap}
use Rattle.ink_step.proofs.Common.{story_tree, keeps_mark, config_of}
use Rattle.ink_step.proofs.Marks.{not_pressed}
use Rattle.ink_step.proofs.Runnings.{runs_alone_at}
use Rattle.ink_step.proofs.machine.Machine.run_alone.Goals as goal

pub returns-clause-runs : goal.returns-clause-runs
returns-clause-runs c =
    let s = story_tree c.args.story.now in
    runs_alone_at _ _ _ s _ _ c.new-desk.result c.run-outcome.new.desk (config_of s c.args.self.now) (config_of s c.run-outcome.new.self) c.run-outcome.result c.new-desk.ensures (ap keeps_mark c.requires.unmarked) (not_pressed s c.run-outcome.new.self (c.run-outcome.ensures.mark ∙ c.requires.unmarked)) c.run-outcome.ensures.runs
