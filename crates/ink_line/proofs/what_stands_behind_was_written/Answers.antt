use Rattle.ink_line.proofs.Adds.{written_behind}
use Rattle.ink_line.proofs.what_stands_behind_was_written.Goals as goal

pub returns : goal.returns
returns c = λ s b x left made newline opens. written_behind s b x newline opens left made
