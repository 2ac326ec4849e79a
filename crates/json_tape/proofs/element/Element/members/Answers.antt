use Rattle.json_tape.proofs.Elements.{first_node, object_here, no_object}
use Rattle.json_tape.proofs.element.Element.members.Goals as goal

pub returns-in-Object : goal.returns-in-Object
returns-in-Object c j h = object_here c.self.inside.tape.now c.self.inside.at c.in-Object.field-0 c.args.self.now c.node.result j c.self.view_is c.node.ensures c.in-Object.is h

pub returns-in_default : goal.returns-in_default
returns-in_default c j h = no_object c.node.result j c.in_default.not-Object (first_node c.args.self.now c.node.result j c.node.ensures h)
