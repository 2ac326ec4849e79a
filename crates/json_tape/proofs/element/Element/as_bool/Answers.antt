use Rattle.std.proofs.Common.{sym, ap, ◌∙◌}
use Rattle.json_tape.proofs.Common.{node_token}
use Rattle.json_tape.proofs.Elements.{bool_in, bool_is, no_bool}
use Rattle.json_tape.proofs.element.Element.as_bool.Goals as goal

pub returns-in-Bool : goal.returns-in-Bool
returns-in-Bool c j h = ap (λ n. bool_in (node_token n)) (sym c.in-Bool.is) ∙ bool_is c.args.self.now c.node.result j c.node.ensures h

pub returns-in_default : goal.returns-in_default
returns-in_default c j h = no_bool c.node.result c.in_default.not-Bool ∙ bool_is c.args.self.now c.node.result j c.node.ensures h
