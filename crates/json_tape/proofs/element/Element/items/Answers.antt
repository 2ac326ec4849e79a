use Rattle.json_tape.proofs.Elements.{first_node, array_here, no_array}
use Rattle.json_tape.proofs.element.Element.items.Goals as goal

pub returns-in-Array : goal.returns-in-Array
returns-in-Array c j h = array_here c.self.inside.tape.now c.self.inside.at c.in-Array.field-0 c.args.self.now c.node.result j c.self.view_is c.node.ensures c.in-Array.is h

pub returns-in_default : goal.returns-in_default
returns-in_default c j h = no_array c.node.result j c.in_default.not-Array (first_node c.args.self.now c.node.result j c.node.ensures h)
