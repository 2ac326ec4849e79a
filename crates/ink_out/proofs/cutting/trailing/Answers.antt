use Rattle.ink_out.proofs.Ends.{suffix_here, suffix_more}
use Rattle.ink_out.proofs.Common.{is_space, suffix_len}
use Rattle.std.proofs.Common.{◌∙◌, ap, arith, sym}
use Rattle.ink_out.proofs.cutting.trailing.Goals as goal

pub loop-start-preserved : goal.loop-start-preserved
loop-start-preserved c = (
  omega (arith, c.loop-start.invariant.0),
  suffix_more (is_space c.args.space) c.as_bytes-bytes.result.now c.loop-start.start _ c.loop-start-test.true c.loop-start.invariant.0 (sym c.has.ensures ∙ c.if-not-has.false) c.loop-start.invariant.1,
)

pub returns-then-not-has : goal.returns-then-not-has
returns-then-not-has c =
    suffix_here (is_space c.args.space) c.as_bytes-bytes.result.now c.loop-start.start _ c.loop-start-test.true c.loop-start.invariant.0 (sym c.has.ensures ∙ c.if-not-has.true) c.loop-start.invariant.1
    ∙ ap (suffix_len (is_space c.args.space)) c.as_bytes-bytes.ensures.value
