use Rattle.std.proofs.Common.{◌∙◌, reverse, sym}
use Rattle.ink_choice.specs.Operands.{operands_of}
use Rattle.ink_choice.proofs.Offered.{makes_none, makes_one}
use Rattle.ink_choice.proofs.making.make.Goals as goal

pub returns-in-Ok-pop_all-2-clause-made : goal.returns-in-Ok-pop_all-2-clause-made
returns-in-Ok-pop_all-2-clause-made g c =
    makes_one c.args.flags c.args.target c.args.visited c.args.threads.now.threads.thread c.args.stack.now.items c.pop_all-in-Ok-choice_of.new.stack.items
    (operands_of (reverse c.args.stack.now.items) c.in-Ok.operands) _ c.in-Ok-choice_of.choice c.in-Ok.ensures (sym c.is_offered.ensures ∙ c.if-not-is_offered.false)
    c.in-Ok-choice_of.ensures _ c.in-Ok-pop_all-2.ensures.ok

pub returns-in-Err-pop_all-2-clause-made : goal.returns-in-Err-pop_all-2-clause-made
returns-in-Err-pop_all-2-clause-made g c =
    makes_none c.args.flags c.args.target c.args.visited c.args.threads.now.threads.thread c.args.stack.now.items c.pop_all-in-Ok-choice_of.new.stack.items
    (operands_of (reverse c.args.stack.now.items) c.in-Ok.operands) _ c.in-Ok-choice_of.choice c.in-Ok.ensures (sym c.is_offered.ensures ∙ c.if-not-is_offered.false)
    c.in-Ok-choice_of.ensures _ _ c.in-Err-pop_all-2.ensures.memory c.in-Err-pop_all-2.ensures.trail.0
