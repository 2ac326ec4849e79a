use Rattle.std.proofs.Common.{sym, ap, ◌∙◌}
use Rattle.json_tape.proofs.Common.{node_token}
use Rattle.json_tape.proofs.Elements.{str_in, str_is, no_str}
use Rattle.json_tape.proofs.element.Element.as_str.Goals as goal

pub returns-in-String : goal.returns-in-String
returns-in-String c j h = ap (λ n. str_in (node_token n)) (sym c.in-String.is) ∙ str_is c.args.self.now c.node.result j c.node.ensures h

pub returns-in_default : goal.returns-in_default
returns-in_default c j h = no_str c.node.result c.in_default.not-String ∙ str_is c.args.self.now c.node.result j c.node.ensures h
