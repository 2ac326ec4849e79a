use Rattle.ink_sound.proofs.Orderly.{spelled_back}
use Rattle.ink_sound.proofs.spelled_texts_read_back.Goals as goal

pub returns : goal.returns
returns c = λ s story. spelled_back s story
