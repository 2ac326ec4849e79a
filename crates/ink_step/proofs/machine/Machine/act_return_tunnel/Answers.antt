use Rattle.std.proofs.Common.{[], ◌∙◌, ap, false, refl}
use Rattle.ink_step.proofs.Common.{story_tree, Effect, context_of, fields_of, stood_of, config_of}
use Rattle.ink_effects.proofs.Plain.{IsPlain, control_plain}
use Rattle.ink_effects.specs.declared.transfer.Transfer.TheVariants.{Return}
use Rattle.ink_model.specs.Flow.Frames.{fresh_depth}
use Rattle.ink_model.specs.Run.Step.Calls.{return_tunnel}
use Rattle.ink_model.specs.declared.content.Control.TheVariants.{ReturnTunnel}
use Rattle.ink_model.specs.declared.frame.FrameKind.TheVariants.{Tunnel}
use Rattle.ink_step.proofs.Direct.{acts_so, breaks_so}
use Rattle.ink_step.proofs.Owned.{own_same}
use Rattle.ink_step.proofs.machine.Machine.act_return_tunnel.Goals as goal
use Rattle.ink_step.proofs.machine.Machine.act_return_tunnel.Goals.{Start}

module _ (c : Start) where
  abbrev does : Effect
  does = let s = story_tree c.args.story.now in return_tunnel s (fields_of (config_of s c.args.self.now))

  plain : IsPlain does
  plain =
      let s = story_tree c.args.story.now in
      let before = config_of s c.args.self.now in
      control_plain s [] (context_of before) ReturnTunnel (fields_of before)

pub returns-in-Ok-clause-ends : goal.returns-in-Ok-clause-ends
returns-in-Ok-clause-ends c =
    let w = (goal.at.returns-in-Ok-clause-ends c).Start in
    let s = story_tree c.args.story.now in
    let old = c.args.self.now in
    let frame = old.flow.threads.threads.thread.frame in
    let performs = c.in-Ok.ensures.effect frame.evaluating (fresh_depth frame) old.output.page old.shared.globals.rows in
    acts_so s old c.tunnel_landing.new.stack old.output false (does w) (plain w) (Return Tunnel c.in-Ok.landing) c.finish_return.new.self c.finish_return.result performs c.finish_return.ensures.ends

pub returns-in-Err-clause-ends : goal.returns-in-Err-clause-ends
returns-in-Err-clause-ends c =
    let w = (goal.at.returns-in-Err-clause-ends c).Start in
    let s = story_tree c.args.story.now in
    let old = c.args.self.now in
    let frame = old.flow.threads.threads.thread.frame in
    let performs = c.in-Err.ensures.effect frame.evaluating (fresh_depth frame) old.output.page old.shared.globals.rows in
    breaks_so s old c.tunnel_landing.new.stack old.output false (does w) (plain w) c.in-Err.fault performs

-- ---- what stays

pub returns-in-Ok-clause-mark : goal.returns-in-Ok-clause-mark
returns-in-Ok-clause-mark c = c.finish_return.ensures.mark ∙ ap (λ o. record (stood_of c.args.self.now) { stack = o }) c.tunnel_landing.ensures.mark

pub returns-in-Err-clause-mark : goal.returns-in-Err-clause-mark
returns-in-Err-clause-mark c = ap (λ o. record (stood_of c.args.self.now) { stack = o }) c.tunnel_landing.ensures.mark

-- ---- the own fields

pub returns-in-Err-clause-own : goal.returns-in-Err-clause-own
returns-in-Err-clause-own c = own_same 1 _ _ refl
