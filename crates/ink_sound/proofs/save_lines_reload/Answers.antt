use Rattle.std.proofs.Common.{refl}
use Rattle.ink_sound.proofs.Common.{spelling}
use Rattle.ink_sound.proofs.Orderly.{load_line, saved_answer, spelled_back}
use Rattle.ink_sound.proofs.save_lines_reload.Goals as goal

pub returns : goal.returns
returns c = λ s story g stands. (saved_answer (spelling g), load_line (spelling g) _ _ refl (spelled_back s story g stands))
