use Rattle.ink_sound.proofs.Respelling.{reads_one}
use Rattle.ink_sound.proofs.one_game_a_spelling.Goals as goal

pub returns : goal.returns
returns c = reads_one
