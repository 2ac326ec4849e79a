use Rattle.std.proofs.Common.{None, Some}
use Rattle.ink_page.proofs.Typing.{as_in_lines}
use Rattle.ink_page.proofs.typed.choice.Goals as goal

pub returns-in-Some : goal.returns-in-Some
returns-in-Some c = as_in_lines c.args.digits.now (Some c.in-Some.number) c.in-Some.ensures

pub returns-in-None : goal.returns-in-None
returns-in-None c = as_in_lines c.args.digits.now None c.in-None.ensures
