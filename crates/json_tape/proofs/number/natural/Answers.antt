use Rattle.json_tape.proofs.Digits.{natural_alone}
use Rattle.json_tape.proofs.number.natural.Goals as goal

pub returns-in-Ok : goal.returns-in-Ok
returns-in-Ok c =
    let read = c.in-Ok.ensures in
    natural_alone c.args.bytes.now c.if-bytes-lt48.false c.in-Ok.natural read.0 read.1
