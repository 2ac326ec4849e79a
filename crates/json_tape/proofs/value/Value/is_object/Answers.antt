use Rattle.std.proofs.Common.{◌∙◌}
use Rattle.json_tape.proofs.Shapes.{object_value}
use Rattle.json_tape.proofs.value.Value.is_object.Goals as goal

pub returns : goal.returns
returns c = c.is_some.ensures ∙ object_value c.args.self.now.element c.args.self.now.readable c.members.result c.members.ensures
