use Rattle.ink_sound.proofs.Aside.{dropped_all}
use Rattle.ink_sound.proofs.dropping_keeps_others.Goals as goal

pub returns : goal.returns
returns c = dropped_all
