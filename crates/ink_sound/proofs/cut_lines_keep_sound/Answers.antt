use Rattle.ink_sound.proofs.Steps.{cut_fits_on}
use Rattle.ink_sound.proofs.cut_lines_keep_sound.Goals as goal

pub returns : goal.returns
returns c = λ s story b x h answers left made d line. cut_fits_on s story b x answers d left made line h
