use Rattle.std.proofs.Common.{sym, ap, ◌∙◌}
use Rattle.json_tape.proofs.Common.{node_token}
use Rattle.json_tape.proofs.Elements.{number_in, number_is, no_number}
use Rattle.json_tape.proofs.element.Element.as_number.Goals as goal

pub returns-in-Number : goal.returns-in-Number
returns-in-Number c j h = ap (λ n. number_in (node_token n)) (sym c.in-Number.is) ∙ number_is c.args.self.now c.node.result j c.node.ensures h

pub returns-in_default : goal.returns-in_default
returns-in_default c j h = no_number c.node.result c.in_default.not-Number ∙ number_is c.args.self.now c.node.result j c.node.ensures h
