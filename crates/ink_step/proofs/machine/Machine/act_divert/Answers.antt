use Rattle.std.proofs.Common.{◌∙◌, ap, false, refl}
use Rattle.ink_step.proofs.Common.{story_tree, Effect, context_of, fields_of, stood_of, config_of, place_of}
use Rattle.ink_effects.proofs.Plain.{IsPlain, leaf_plain}
use Rattle.ink_effects.specs.Standing.{rest_in}
use Rattle.ink_effects.specs.declared.transfer.Transfer.TheVariants.{Land, Next}
use Rattle.ink_model.specs.Flow.Frames.{fresh_depth}
use Rattle.ink_model.specs.Run.Step.Diverts.{divert}
use Rattle.ink_model.specs.declared.content.Leaf.TheVariants.{Divert}
use Rattle.ink_step.proofs.Direct.{acts_so, breaks_so}
use Rattle.ink_step.proofs.Owned.{own_same}
use Rattle.ink_step.proofs.machine.Machine.act_divert.Goals as goal
use Rattle.ink_step.proofs.machine.Machine.act_divert.Goals.{Start}

module _ (c : Start) where
  abbrev does : Effect
  does =
      let s = story_tree c.args.story.now in
      let before = config_of s c.args.self.now in
      divert s (place_of s c.args.here) (context_of before) c.args.to.now c.args.conditional (fields_of before)

  plain : IsPlain does
  plain =
      let s = story_tree c.args.story.now in
      let before = config_of s c.args.self.now in
      leaf_plain s (place_of s c.args.here) (context_of before) (Divert c.args.to.now c.args.conditional) (fields_of before) tt

pub returns-in-Ok-Some-clause-ends : goal.returns-in-Ok-Some-clause-ends
returns-in-Ok-Some-clause-ends c =
    let w = (goal.at.returns-in-Ok-Some-clause-ends c).Start in
    let s = story_tree c.args.story.now in
    let old = c.args.self.now in
    let frame = old.flow.threads.threads.thread.frame in
    let performs = rw c.in-Ok-Some.field-0-is at (c.in-Ok-Some.ensures.divert frame.evaluating (fresh_depth frame) old.output.page (rest_in old.flow.choices.items old.shared)) in
    acts_so s old c.wanted_landing.new.stack old.output false (does w) (plain w) (Land c.in-Ok-Some.landing) c.finish_divert.new.self c.finish_divert.result performs c.finish_divert.ensures.ends

pub returns-in-Ok-None-clause-ends : goal.returns-in-Ok-None-clause-ends
returns-in-Ok-None-clause-ends c =
    let w = (goal.at.returns-in-Ok-None-clause-ends c).Start in
    let s = story_tree c.args.story.now in
    let old = c.args.self.now in
    let frame = old.flow.threads.threads.thread.frame in
    let performs = rw c.in-Ok-None.field-0-is at (c.in-Ok-None.ensures.divert frame.evaluating (fresh_depth frame) old.output.page (rest_in old.flow.choices.items old.shared)) in
    acts_so s old c.wanted_landing.new.stack old.output false (does w) (plain w) Next c.go_after.new.self c.go_after.result performs c.go_after.ensures.ends

pub returns-in-Err-clause-ends : goal.returns-in-Err-clause-ends
returns-in-Err-clause-ends c =
    let w = (goal.at.returns-in-Err-clause-ends c).Start in
    let s = story_tree c.args.story.now in
    let old = c.args.self.now in
    let frame = old.flow.threads.threads.thread.frame in
    let performs = c.in-Err.ensures.divert frame.evaluating (fresh_depth frame) old.output.page (rest_in old.flow.choices.items old.shared) in
    breaks_so s old c.wanted_landing.new.stack old.output false (does w) (plain w) c.in-Err.fault performs

-- ---- what stays

pub returns-in-Ok-Some-clause-mark : goal.returns-in-Ok-Some-clause-mark
returns-in-Ok-Some-clause-mark c = c.finish_divert.ensures.mark ∙ ap (λ o. record (stood_of c.args.self.now) { stack = o }) c.wanted_landing.ensures.mark

pub returns-in-Ok-None-clause-mark : goal.returns-in-Ok-None-clause-mark
returns-in-Ok-None-clause-mark c = c.go_after.ensures.mark ∙ ap (λ o. record (stood_of c.args.self.now) { stack = o }) c.wanted_landing.ensures.mark

pub returns-in-Err-clause-mark : goal.returns-in-Err-clause-mark
returns-in-Err-clause-mark c = ap (λ o. record (stood_of c.args.self.now) { stack = o }) c.wanted_landing.ensures.mark

-- ---- the own fields

pub returns-in-Err-clause-own : goal.returns-in-Err-clause-own
returns-in-Err-clause-own c = own_same 1 _ _ refl
