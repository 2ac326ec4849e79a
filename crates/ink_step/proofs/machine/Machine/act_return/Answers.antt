use Rattle.std.proofs.Common.{None, false, refl}
use Rattle.ink_step.proofs.Common.{story_tree, fields_of, config_of}
use Rattle.ink_effects.specs.declared.transfer.Transfer.TheVariants.{Return}
use Rattle.ink_model.specs.Run.Step.Calls.{return_function}
use Rattle.ink_model.specs.declared.frame.FrameKind.TheVariants.{Function}
use Rattle.ink_step.proofs.Direct.{acts_so}
use Rattle.ink_step.proofs.machine.Machine.act_return.Goals as goal

pub returns-clause-ends : goal.returns-clause-ends
returns-clause-ends c =
    let s = story_tree c.args.story.now in
    let old = c.args.self.now in
    acts_so s old old.flow.stack old.output false (return_function (fields_of (config_of s old))) tt (Return Function None) c.finish_return.new.self c.finish_return.result (refl, refl, refl) c.finish_return.ensures.ends
