use Rattle.std.proofs.Common.{◌∙◌, sym}
use Rattle.ink_value.proofs.Dividing.{has_quotient, remainder_is}
use Rattle.ink_value.proofs.numbers.remainder.Goals as goal

pub nonzero_rem-result : goal.nonzero_rem-result
nonzero_rem-result c = has_quotient c.args.x c.args.y c.ranges.x c.ranges.y (sym c.can_divide.ensures ∙ c.if-can_divide.true)

pub returns-then-can_divide : goal.returns-then-can_divide
returns-then-can_divide c = remainder_is c.args.x c.args.y c.ranges.x c.ranges.y (sym c.can_divide.ensures ∙ c.if-can_divide.true)
