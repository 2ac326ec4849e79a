use Rattle.ink_sound.proofs.Flat.{spelling_flat}
use Rattle.ink_sound.proofs.spellings_have_no_float.Goals as goal

pub returns : goal.returns
returns c = λ g. (spelling_flat g).1
