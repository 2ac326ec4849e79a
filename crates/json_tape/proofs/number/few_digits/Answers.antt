use Rattle.std.proofs.Common.{arith}
use Rattle.json_tape.proofs.Digits.{few_before, few_done, few_more}
use Rattle.json_tape.proofs.number.few_digits.Goals as goal

pub overflow_mul-value : goal.overflow_mul-value
overflow_mul-value c =
    let small = few_before c.args.bytes.now c.loop-at.at c.loop-at-test.true c.if-len-gt-FEW.false c.loop-at.invariant.digits in
    omega (arith, small, c.loop-at.invariant.value)

pub overflow_add-value : goal.overflow_add-value
overflow_add-value c =
    let small = few_before c.args.bytes.now c.loop-at.at c.loop-at-test.true c.if-len-gt-FEW.false c.loop-at.invariant.digits in
    omega (arith, small, c.loop-at.invariant.value, c.if-byte-gt57.false)

pub loop-at-preserved : goal.loop-at-preserved
loop-at-preserved c =
    let more = few_more c.args.bytes.now c.loop-at.at c.loop-at.value c.loop-at-test.true c.if-byte-lt48.false c.if-byte-gt57.false c.loop-at.invariant.digits c.loop-at.invariant.value in
    record { digits = more.0; value = more.1 }

pub returns : goal.returns
returns c = few_done c.args.bytes.now c.loop-at.at c.loop-at.value (omega (arith, c.if-len-eq0.false)) c.if-len-gt-FEW.false c.loop-at-test.false c.loop-at.invariant.digits c.loop-at.invariant.value
