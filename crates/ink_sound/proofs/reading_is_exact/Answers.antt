use Rattle.ink_sound.proofs.Respelling.{reads_back, reads_so}
use Rattle.ink_sound.proofs.reading_is_exact.Goals as goal

pub returns : goal.returns
returns c = λ s story j x. (reads_back s story j x, reads_so s story j x)
