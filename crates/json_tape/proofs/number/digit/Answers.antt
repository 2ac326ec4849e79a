use Rattle.std.proofs.Common.{arith}
use Rattle.json_tape.proofs.Digits.{single_digit}
use Rattle.json_tape.proofs.number.digit.Goals as goal

pub returns : goal.returns
returns c = single_digit c.args.bytes.now (omega (arith, c.if-bytes-ne1.false)) (omega (arith, c.if-digit-lt48.false)) (omega (arith, c.if-digit-gt57.false))
