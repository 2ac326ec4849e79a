use Rattle.std.proofs.Common.{◌∙◌, sym}
use Rattle.ink_value.proofs.Dividing.{has_quotient, quotient_is}
use Rattle.ink_value.proofs.numbers.quotient.Goals as goal

pub nonzero_div-result : goal.nonzero_div-result
nonzero_div-result c = has_quotient c.args.x c.args.y c.ranges.x c.ranges.y (sym c.can_divide.ensures ∙ c.if-can_divide.true)

pub returns-then-can_divide : goal.returns-then-can_divide
returns-then-can_divide c = quotient_is c.args.x c.args.y c.ranges.x c.ranges.y (sym c.can_divide.ensures ∙ c.if-can_divide.true)
