use Rattle.std.proofs.Common.{ap, ◌∙◌}
use Rattle.json_tape.specs.Spelled.{held}
use Rattle.json_tape.proofs.Spelled.{held_is, text_refused}
use Rattle.json_tape.proofs.tape.Parsed.of.Goals as goal

pub returns-in-Ok-Some : goal.returns-in-Ok-Some
returns-in-Ok-Some c =
    let made = rw c.in-Ok-Some.field-0-is at c.in-Ok-Some.ensures in
    ap held made.0 ∙ held_is c.args.text.now made.1

pub returns-in-Ok-None : goal.returns-in-Ok-None
returns-in-Ok-None c = text_refused c.args.text.now (rw c.in-Ok-None.field-0-is at c.in-Ok-None.ensures)
