use Rattle.std.proofs.Common.{◌∙◌}
use Rattle.ink_value.proofs.Joined.{joins_both, not_long}
use Rattle.ink_value.proofs.texts.joined.Goals as goal

pub returns-clause-result : goal.returns-clause-result
returns-clause-result c =
    joins_both c.args.left.now c.args.right.now c.in_ok-new.field-0 c.if-left-right-gt-MAX_TEXT.false (c.in_ok-new.ensures ∙ c.in_ok-both.ensures)

pub returns-clause-memory : goal.returns-clause-memory
returns-clause-memory c long = absurd (not_long c.args.left.now c.args.right.now c.if-left-right-gt-MAX_TEXT.false long)

pub returns-in_err-both-clause-memory : goal.returns-in_err-both-clause-memory
returns-in_err-both-clause-memory c long = absurd (not_long c.args.left.now c.args.right.now c.if-left-right-gt-MAX_TEXT.false long)

pub returns-in_err-new-clause-memory : goal.returns-in_err-new-clause-memory
returns-in_err-new-clause-memory c long = absurd (not_long c.args.left.now c.args.right.now c.if-left-right-gt-MAX_TEXT.false long)
