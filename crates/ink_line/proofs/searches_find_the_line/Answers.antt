use Rattle.ink_line.proofs.Found.{finds}
use Rattle.ink_line.proofs.searches_find_the_line.Goals as goal

pub returns : goal.returns
returns c = finds
