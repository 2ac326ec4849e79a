use Rattle.ink_look.proofs.Common.{story_tree, bound_by, config_of}
use Rattle.ink_look.specs.declared.lines.LineEnd.TheVariants as line_end
use Rattle.ink_look.proofs.Settling.{line_says}
use Rattle.ink_look.proofs.passages.say.Goals as goal

pub returns-in-Stop-clause-runs : goal.returns-in-Stop-clause-runs
returns-in-Stop-clause-runs g c = rw c.in-Stop.is c.through.ensures.runs

pub returns-in-Fault-clause-runs : goal.returns-in-Fault-clause-runs
returns-in-Fault-clause-runs g c =
    let s = story_tree c.args.story.now in
    let b = bound_by g.P.PureFn.meaning c.args.desk.now.functions in
    let ran = c.in-Fault.ensures.line in
    rw c.in-Line.is (ran.0, ran.1, line_says s b (config_of s c.args.machine.now) ran.0 (config_of s c.line.new.machine) (line_end.Fault c.in-Fault.fault) ran.2)

pub returns-in-Line-line-clause-runs : goal.returns-in-Line-line-clause-runs
returns-in-Line-line-clause-runs g c =
    let s = story_tree c.args.story.now in
    let b = bound_by g.P.PureFn.meaning c.args.desk.now.functions in
    let ran = c.in-Line-line.ensures.line in
    rw c.in-Line.is (ran.0, ran.1, line_says s b (config_of s c.args.machine.now) ran.0 (config_of s c.line.new.machine) (line_end.Line c.in-Line-line.said) ran.2)

pub returns-in-Stopped-clause-runs : goal.returns-in-Stopped-clause-runs
returns-in-Stopped-clause-runs g c =
    let s = story_tree c.args.story.now in
    let b = bound_by g.P.PureFn.meaning c.args.desk.now.functions in
    let ran = c.in-Stopped.ensures.line in
    rw c.in-Line.is (ran.0, ran.1, line_says s b (config_of s c.args.machine.now) ran.0 (config_of s c.line.new.machine) (line_end.Stopped c.in-Stopped.said) ran.2)
