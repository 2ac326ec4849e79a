use Rattle.std.proofs.Common.{◌∙◌}
use Rattle.ink_choice.proofs.Settling.{asks-within, copied-all, copied-on}
use Rattle.ink_choice.proofs.choice.copied_tags.Goals as goal

pub loop-tag-preserved : goal.loop-tag-preserved
loop-tag-preserved c =
    copied-on c.as_slice-tag-items.result.now c.loop-tag.copies.items c.push.new.self.items c.loop-tag.tag-index c.in_ok-tag.tag c.tag-item.result c.loop-tag-test.true c.in_ok-push.ensures.items c.loop-tag.invariant c.in_ok-tag.ensures c.tag-item.is

pub returns-in_err-tag-clause-memory : goal.returns-in_err-tag-clause-memory
returns-in_err-tag-clause-memory c = asks-within c.from_residual.result c.args.tags.now c.as_slice-tag-items.result.now c.loop-tag.tag-index c.as_slice-tag-items.ensures c.loop-tag-test.true

pub returns-in_err-push-clause-memory : goal.returns-in_err-push-clause-memory
returns-in_err-push-clause-memory c = asks-within c.from_residual-in_err-push.result c.args.tags.now c.as_slice-tag-items.result.now c.loop-tag.tag-index c.as_slice-tag-items.ensures c.loop-tag-test.true

pub returns-clause-copy : goal.returns-clause-copy
returns-clause-copy c =
    c.from_vec.ensures ∙ copied-all c.args.tags.now c.as_slice-tag-items.result.now c.loop-tag.copies.items c.loop-tag.tag-index c.as_slice-tag-items.ensures c.loop-tag-test.false c.loop-tag.invariant
