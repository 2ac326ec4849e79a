use Rattle.ink_out.proofs.Ends.{prefix_here, prefix_more}
use Rattle.ink_model.specs.Text.Bytes.{is_white}
use Rattle.std.proofs.Common.{◌∙◌, ap, not, sym}
use Rattle.ink_out.proofs.cleaning.word_len.Goals as goal

pub loop-at-preserved : goal.loop-at-preserved
loop-at-preserved c = prefix_more (λ byte. not (is_white byte)) c.args.text.now c.loop-at.at _ c.loop-at-test.true (ap not (sym c.is_white.ensures ∙ c.if-is_white.false)) c.loop-at.invariant

pub returns-then-is_white : goal.returns-then-is_white
returns-then-is_white c = prefix_here (λ byte. not (is_white byte)) c.args.text.now c.loop-at.at _ c.loop-at-test.true (ap not (sym c.is_white.ensures ∙ c.if-is_white.true)) c.loop-at.invariant
