use Rattle.ink_sound.proofs.Between.{settled_rests, settled_sound}
use Rattle.ink_sound.proofs.settling_keeps_sound.Goals as goal

pub returns : goal.returns
returns c = λ s x h. (settled_sound s x h, settled_rests x)
