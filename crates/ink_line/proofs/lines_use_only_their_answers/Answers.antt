use Rattle.ink_line.proofs.Enough.{enough}
use Rattle.ink_line.proofs.lines_use_only_their_answers.Goals as goal

pub returns : goal.returns
returns c = λ s b h given later x line answered. enough s b later h given x line answered
