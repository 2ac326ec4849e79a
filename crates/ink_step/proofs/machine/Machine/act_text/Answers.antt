use Rattle.std.proofs.Common.{◌∙◌, if◌then◌else◌, Bool, refl}
use Rattle.ink_step.proofs.Common.{story_tree, Effect, context_of, fields_of, StoryTree, config_of, place_of}
use Rattle.ink_effects.proofs.Plain.{IsPlain, leaf_plain}
use Rattle.ink_effects.specs.declared.transfer.Transfer.TheVariants.{Next, Wrote}
use Rattle.ink_model.specs.Memory.Asks.{has_bytes, has_room}
use Rattle.ink_model.specs.Run.Step.Text.{write_text}
use Rattle.ink_model.specs.declared.content.Leaf.TheVariants.{Text}
use Rattle.ink_step.proofs.Direct.{acts_so, breaks_so}
use Rattle.ink_step.proofs.Owned.{own_same}
use Rattle.ink_step.proofs.machine.Machine.act_text.Goals as goal
use Rattle.ink_step.proofs.machine.Machine.act_text.Goals.{Start}

module _ (c : Start) where
  abbrev tree : StoryTree
  tree = story_tree c.args.story.now

  abbrev asking : Bool
  asking = (let f = fields_of (config_of tree c.args.self.now) in if f.evaluating then has_room f.stack else has_bytes c.args.text.now)

  abbrev does : Effect
  does = write_text c.args.text.now (fields_of (config_of tree c.args.self.now))

  plain : IsPlain does
  plain =
      let before = config_of tree c.args.self.now in
      leaf_plain tree (place_of tree c.args.here) (context_of before) (Text c.args.text.now) (fields_of before) tt

pub returns-in-Ok-true-clause-ends : goal.returns-in-Ok-true-clause-ends
returns-in-Ok-true-clause-ends c =
    let w = (goal.at.returns-in-Ok-true-clause-ends c).Start in
    let old = c.args.self.now in
    let performs = rw (c.in-Ok-true.field-0-test, c.is_evaluating.ensures, c.fresh_depth.ensures) at (c.in-Ok-true.ensures.effect old.shared.globals.rows (tree w)) in
    acts_so (tree w) old c.write_text.new.stack c.write_text.new.output (asking w) (does w) (plain w) Wrote c.finish_text.new.self c.finish_text.result performs c.finish_text.ensures.ends

pub returns-in-Ok-false-clause-ends : goal.returns-in-Ok-false-clause-ends
returns-in-Ok-false-clause-ends c =
    let w = (goal.at.returns-in-Ok-false-clause-ends c).Start in
    let old = c.args.self.now in
    let performs = rw (c.in-Ok-false.field-0-test, c.is_evaluating.ensures, c.fresh_depth.ensures) at (c.in-Ok-false.ensures.effect old.shared.globals.rows (tree w)) in
    acts_so (tree w) old c.write_text.new.stack c.write_text.new.output (asking w) (does w) (plain w) Next c.go_after.new.self c.go_after.result performs c.go_after.ensures.ends

pub returns-in-Err-clause-ends : goal.returns-in-Err-clause-ends
returns-in-Err-clause-ends c =
    let w = (goal.at.returns-in-Err-clause-ends c).Start in
    let old = c.args.self.now in
    let performs = rw (c.is_evaluating.ensures, c.fresh_depth.ensures) at (c.in-Err.ensures.effect old.shared.globals.rows (tree w)) in
    breaks_so (tree w) old c.write_text.new.stack c.write_text.new.output (asking w) (does w) (plain w) c.in-Err.fault performs

-- ---- what stays

pub returns-in-Ok-true-clause-mark : goal.returns-in-Ok-true-clause-mark
returns-in-Ok-true-clause-mark c = c.finish_text.ensures.mark ∙ rw (c.write_text.ensures.stack_mark, c.write_text.ensures.output_mark) refl

pub returns-in-Ok-false-clause-mark : goal.returns-in-Ok-false-clause-mark
returns-in-Ok-false-clause-mark c = c.go_after.ensures.mark ∙ rw (c.write_text.ensures.stack_mark, c.write_text.ensures.output_mark) refl

pub returns-in-Err-clause-mark : goal.returns-in-Err-clause-mark
returns-in-Err-clause-mark c = rw (c.write_text.ensures.stack_mark, c.write_text.ensures.output_mark) refl

-- ---- the own fields

pub returns-in-Err-clause-own : goal.returns-in-Err-clause-own
returns-in-Err-clause-own c = own_same 1 _ _ refl
