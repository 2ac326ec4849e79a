use Rattle.ink_check.specs.Standing.{story_tree}
use Rattle.ink_model.specs.Flow.Frames.{fresh_depth}
use Rattle.ink_effects.specs.Standing.{rest_in}
use Rattle.ink_effects.proofs.control.perform_in_mode.Goals as goal

pub returns-in-BeginEval-clause-effect : goal.returns-in-BeginEval-clause-effect
returns-in-BeginEval-clause-effect c globals = rw (c.in-BeginEval.is, c.requires.on) (c.begin_eval.ensures (fresh_depth c.args.flow.now.threads.threads.thread.frame) c.args.flow.now.stack.items c.args.output.now.page globals (story_tree c.args.story.now))

pub returns-in-EndEval-clause-effect : goal.returns-in-EndEval-clause-effect
returns-in-EndEval-clause-effect c globals = rw (c.in-EndEval.is, c.requires.on) (c.end_eval.ensures (fresh_depth c.args.flow.now.threads.threads.thread.frame) c.args.flow.now.stack.items c.args.output.now.page globals (story_tree c.args.story.now))

pub returns-in-Out-clause-effect : goal.returns-in-Out-clause-effect
returns-in-Out-clause-effect c globals = rw (c.in-Out.is, c.after_text.ensures) (rw c.fresh_depth.ensures at (c.output_top.ensures.effect c.args.evaluating.now globals (story_tree c.args.story.now)))

pub returns-in-Pop-clause-effect : goal.returns-in-Pop-clause-effect
returns-in-Pop-clause-effect c globals = rw (c.in-Pop.is, c.requires.on) (c.pop.ensures.effect c.args.evaluating.now (fresh_depth c.args.flow.now.threads.threads.thread.frame) c.args.output.now.page globals (story_tree c.args.story.now))

pub returns-in-Duplicate-clause-effect : goal.returns-in-Duplicate-clause-effect
returns-in-Duplicate-clause-effect c globals = rw (c.in-Duplicate.is, c.requires.on) (c.duplicate.ensures.effect c.args.evaluating.now (fresh_depth c.args.flow.now.threads.threads.thread.frame) c.args.output.now.page globals (story_tree c.args.story.now))

pub returns-in-BeginString-clause-effect : goal.returns-in-BeginString-clause-effect
returns-in-BeginString-clause-effect c globals = rw (c.in-BeginString.is, c.requires.on) (c.begin_string.ensures.effect (fresh_depth c.args.flow.now.threads.threads.thread.frame) c.args.flow.now.stack.items globals (story_tree c.args.story.now))

pub returns-in-EndString-clause-effect : goal.returns-in-EndString-clause-effect
returns-in-EndString-clause-effect c globals = rw (c.in-EndString.is, c.requires.on) (c.end_string.ensures.effect (fresh_depth c.args.flow.now.threads.threads.thread.frame) globals (story_tree c.args.story.now))

pub returns-in-BeginTag-clause-effect : goal.returns-in-BeginTag-clause-effect
returns-in-BeginTag-clause-effect c globals = rw (c.in-BeginTag.is, c.requires.on) (c.begin_tag.ensures.effect c.args.evaluating.now (fresh_depth c.args.flow.now.threads.threads.thread.frame) globals (story_tree c.args.story.now))

pub returns-in-EndTag-clause-effect : goal.returns-in-EndTag-clause-effect
returns-in-EndTag-clause-effect c globals = rw (c.in-EndTag.is, c.requires.on) (c.end_tag.ensures.effect c.args.evaluating.now (fresh_depth c.args.flow.now.threads.threads.thread.frame) globals (story_tree c.args.story.now))

pub returns-in-Turn-clause-effect : goal.returns-in-Turn-clause-effect
returns-in-Turn-clause-effect c globals =
    let s = story_tree c.args.story.now in
    let threads = c.args.flow.now.threads.threads in
    let pushed = c.push_turn.ensures.effect s threads (rest_in c.args.flow.now.choices.items c.args.shared.now) c.args.evaluating.now (fresh_depth threads.thread.frame) c.args.output.now.page globals s in
    rw (c.in-Turn.is, c.requires.on) pushed

pub returns-in-Turns-clause-effect : goal.returns-in-Turns-clause-effect
returns-in-Turns-clause-effect c globals =
    let s = story_tree c.args.story.now in
    let threads = c.args.flow.now.threads.threads in
    let pushed = c.push_turns.ensures.effect threads (rest_in c.args.flow.now.choices.items c.args.shared.now) c.args.evaluating.now (fresh_depth threads.thread.frame) c.args.output.now.page globals s in
    rw (c.in-Turns.is, c.requires.on) pushed

pub returns-in-ReadCount-clause-effect : goal.returns-in-ReadCount-clause-effect
returns-in-ReadCount-clause-effect c globals =
    let s = story_tree c.args.story.now in
    let threads = c.args.flow.now.threads.threads in
    let pushed = c.push_read_count.ensures.effect threads (rest_in c.args.flow.now.choices.items c.args.shared.now) c.args.evaluating.now (fresh_depth threads.thread.frame) c.args.output.now.page globals s in
    rw (c.in-ReadCount.is, c.requires.on) pushed

pub returns-in-Visit-clause-effect : goal.returns-in-Visit-clause-effect
returns-in-Visit-clause-effect c globals =
    let s = story_tree c.args.story.now in
    let threads = c.args.flow.now.threads.threads in
    let pushed = c.push_visit.ensures.effect threads (rest_in c.args.flow.now.choices.items c.args.shared.now) c.args.evaluating.now (fresh_depth threads.thread.frame) c.args.output.now.page globals s in
    rw (c.in-Visit.is, c.requires.on) pushed

pub returns-in-ChoiceCount-clause-effect : goal.returns-in-ChoiceCount-clause-effect
returns-in-ChoiceCount-clause-effect c globals =
    let s = story_tree c.args.story.now in
    let threads = c.args.flow.now.threads.threads in
    let pushed = c.push_choice_count.ensures.effect s threads (rest_in c.args.flow.now.choices.items c.args.shared.now) c.args.evaluating.now (fresh_depth threads.thread.frame) c.args.output.now.page globals s in
    rw (c.in-ChoiceCount.is, c.requires.on) pushed
