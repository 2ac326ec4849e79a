use Rattle.ink_sound.proofs.Sessions.{opened_fits}
use Rattle.ink_sound.proofs.openings_are_sound.Goals as goal

pub returns : goal.returns
returns c = opened_fits
