use Rattle.json_tape.proofs.Shapes.{value_bool}
use Rattle.json_tape.proofs.value.Value.as_bool.Goals as goal

pub returns : goal.returns
returns c = value_bool c.args.self.now.element c.args.self.now.readable _ c.as_bool.ensures
