use Rattle.std.proofs.Common.{◌∙◌, Some, ap, false, refl, subst, sym}
use Rattle.ink_step.proofs.Common.{story_tree, fields_of, leaf, config_of, place_of}
use Rattle.ink_effects.specs.declared.transfer.Transfer.TheVariants as transfer
use Rattle.ink_model.specs.Run.Effect.{Done, Forks}
use Rattle.ink_model.specs.declared.content.Leaf.TheVariants.{Control}
use Rattle.ink_step.proofs.Direct.{acts_so}
use Rattle.ink_step.specs.Finishes.{ActsThere}
use Rattle.ink_step.proofs.machine.Machine.act_control.Goals as goal

pub returns-in-Return-clause-ends : goal.returns-in-Return-clause-ends
returns-in-Return-clause-ends c =
    let s = story_tree c.args.story.now in
    subst (λ l. ActsThere s (place_of s c.args.here) (Some (leaf l)) c.args.self.now c.act_return.new.self c.act_return.result) (sym (c.requires.is ∙ ap Control c.in-Return.is)) c.act_return.ensures.ends

pub returns-in-ReturnTunnel-clause-ends : goal.returns-in-ReturnTunnel-clause-ends
returns-in-ReturnTunnel-clause-ends c =
    let s = story_tree c.args.story.now in
    subst (λ l. ActsThere s (place_of s c.args.here) (Some (leaf l)) c.args.self.now c.act_return_tunnel.new.self c.act_return_tunnel.result) (sym (c.requires.is ∙ ap Control c.in-ReturnTunnel.is)) c.act_return_tunnel.ensures.ends

pub returns-in-Thread-clause-ends : goal.returns-in-Thread-clause-ends
returns-in-Thread-clause-ends c =
    let s = story_tree c.args.story.now in
    let old = c.args.self.now in
    subst (λ l. ActsThere s (place_of s c.args.here) (Some (leaf l)) old c.finish_fork.new.self c.finish_fork.result) (sym (c.requires.is ∙ ap Control c.in-Thread.is))
    (acts_so s old old.flow.stack old.output false (Forks (fields_of (config_of s old))) tt transfer.Fork c.finish_fork.new.self c.finish_fork.result refl c.finish_fork.ensures.ends)

pub returns-in-Done-clause-ends : goal.returns-in-Done-clause-ends
returns-in-Done-clause-ends c =
    let s = story_tree c.args.story.now in
    let old = c.args.self.now in
    subst (λ l. ActsThere s (place_of s c.args.here) (Some (leaf l)) old c.finish_done.new.self c.finish_done.result) (sym (c.requires.is ∙ ap Control c.in-Done.is))
    (acts_so s old old.flow.stack old.output false (Done (fields_of (config_of s old))) tt transfer.Done c.finish_done.new.self c.finish_done.result refl c.finish_done.ensures.ends)
