use Rattle.json_tape.proofs.Shapes.{value_str}
use Rattle.json_tape.proofs.value.Value.as_str.Goals as goal

pub returns : goal.returns
returns c = value_str c.args.self.now.element c.args.self.now.readable _ c.as_str.ensures
