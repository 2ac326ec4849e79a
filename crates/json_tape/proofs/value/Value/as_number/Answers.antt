use Rattle.std.proofs.Common.{None, Some, ◌∙◌}
use Rattle.json_tape.proofs.Shapes.{value_number}
use Rattle.json_tape.proofs.value.Value.as_number.Goals as goal

pub returns-in-Some : goal.returns-in-Some
returns-in-Some c = c.parse.ensures ∙ value_number c.args.self.now.element c.args.self.now.readable (Some c.in-Some.text.now) c.in-Some.ensures

pub returns-in-None : goal.returns-in-None
returns-in-None c = value_number c.args.self.now.element c.args.self.now.readable None c.in-None.ensures
