use Rattle.std.proofs.Common.{sym}
use Rattle.ink_check.proofs.Checked.{all_good}
use Rattle.ink_check.proofs.checking.check.Goals as goal

pub returns-in-Ok-clause-ok : goal.returns-in-Ok-clause-ok
returns-in-Ok-clause-ok c = rw (sym c.in_ok-tree.ensures.ok) (all_good _ c.in-Ok.ensures.good)
