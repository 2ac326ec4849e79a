use Rattle.std.proofs.Common.{sym}
use Rattle.ink_check.proofs.forms.leaf_link.Goals as goal

pub returns-in-Some-clause-link : goal.returns-in-Some-clause-link
returns-in-Some-clause-link c = c.path_link.ensures c.args.names.now c.args.leaf.now (sym c.in-Some.ensures)
