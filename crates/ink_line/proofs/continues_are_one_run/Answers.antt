use Rattle.ink_line.proofs.Rows.{continues_are_laid}
use Rattle.ink_line.proofs.continues_are_one_run.Goals as goal

pub returns : goal.returns
returns c = continues_are_laid
