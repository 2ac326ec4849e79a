use Rattle.ink_line.proofs.Found.{knows}
use Rattle.ink_line.proofs.searches_know_where_they_are.Goals as goal

pub returns : goal.returns
returns c = knows
