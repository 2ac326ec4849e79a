use Rattle.ink_sound.proofs.Sessions.{does_fit}
use Rattle.ink_sound.proofs.commands_keep_sound.Goals as goal

pub returns : goal.returns
returns c = does_fit
