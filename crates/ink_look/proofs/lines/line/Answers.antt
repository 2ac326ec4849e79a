use Rattle.std.proofs.Common.{◌∙◌}
use Rattle.ink_look.proofs.Common.{story_tree, bound_by, config_of}
use Rattle.ink_look.proofs.LineEnding.{falls, says, line_kept}
use Rattle.ink_look.proofs.lines.line.Goals as goal

pub returns-in-Ok-clause-line : goal.returns-in-Ok-clause-line
returns-in-Ok-clause-line g c =
    let s = story_tree c.args.story.now in
    let b = bound_by g.P.PureFn.meaning c.args.desk.now.functions in
    let ran = c.in-Ok.ensures.line in (
      ran.0,
      ran.1,
      says s b ran.0 (config_of s c.args.machine.now) (config_of s c.begin.new.self) (c.begin.ensures.begun s) c.in-Ok.is_cut (config_of s c.find_line.new.machine) (config_of s c.say.new.machine) c.say.result
          ran.2 (c.say.ensures.says s),
    )

pub returns-in-Err-clause-line : goal.returns-in-Err-clause-line
returns-in-Err-clause-line g c =
    let s = story_tree c.args.story.now in
    let b = bound_by g.P.PureFn.meaning c.args.desk.now.functions in
    let ran = c.in-Err.ensures.line in
    (ran.0, ran.1, falls s b ran.0 (config_of s c.args.machine.now) (config_of s c.begin.new.self) (c.begin.ensures.begun s) c.in-Err.fault (config_of s c.find_line.new.machine) ran.2)

-- changes are told from where the command began
pub returns-in-Ok-clause-start : goal.returns-in-Ok-clause-start
returns-in-Ok-clause-start g c = c.say.ensures.start ∙ c.in-Ok.ensures.start ∙ c.begin.ensures.start

pub returns-in-Err-clause-start : goal.returns-in-Err-clause-start
returns-in-Err-clause-start g c = c.in-Err.ensures.start ∙ c.begin.ensures.start

-- what is said calls nothing
pub returns-in-Ok-clause-refusals : goal.returns-in-Ok-clause-refusals
returns-in-Ok-clause-refusals g c = line_kept g.F.TurnFn.refusals c.args.desk.now c.find_line.new.desk c.say.result c.in-Ok.ensures.refusals

pub returns-in-Ok-clause-aside : goal.returns-in-Ok-clause-aside
returns-in-Ok-clause-aside g c = c.say.ensures.aside ∙ c.in-Ok.ensures.aside ∙ c.begin.ensures.aside

pub returns-in-Err-clause-aside : goal.returns-in-Err-clause-aside
returns-in-Err-clause-aside g c = c.in-Err.ensures.aside ∙ c.begin.ensures.aside
