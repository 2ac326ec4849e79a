use Rattle.ink_out.proofs.Ends.{prefix_here, prefix_more}
use Rattle.ink_out.proofs.Common.{is_space, prefix_len}
use Rattle.std.proofs.Common.{◌∙◌, ap, sym}
use Rattle.ink_out.proofs.cutting.leading.Goals as goal

pub loop-len-preserved : goal.loop-len-preserved
loop-len-preserved c = prefix_more (is_space c.args.space) c.as_bytes-bytes.result.now c.loop-len.len _ c.loop-len-test.true (sym c.has.ensures ∙ c.if-not-has.false) c.loop-len.invariant

pub returns-then-not-has : goal.returns-then-not-has
returns-then-not-has c =
    prefix_here (is_space c.args.space) c.as_bytes-bytes.result.now c.loop-len.len _ c.loop-len-test.true (sym c.has.ensures ∙ c.if-not-has.true) c.loop-len.invariant
    ∙ ap (prefix_len (is_space c.args.space)) c.as_bytes-bytes.ensures.value
