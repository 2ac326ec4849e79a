use Rattle.std.proofs.Common.{refl}
use Rattle.ink_reader.proofs.Playing.{gave-still}
use Rattle.ink_reader.proofs.moves.save_of.Goals as goal

pub returns-clause-gave : goal.returns-clause-gave
returns-clause-gave g c = let does = c.save_text.ensures.does in (does.0, does.1, gave-still (refl, does.2) (refl, refl))
