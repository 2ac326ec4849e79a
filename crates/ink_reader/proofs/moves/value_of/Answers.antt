use Rattle.std.proofs.Common.{refl}
use Rattle.ink_reader.proofs.Playing.{gave-still}
use Rattle.ink_reader.proofs.moves.value_of.Goals as goal

pub returns : goal.returns
returns g c = gave-still (refl, c.get.ensures) (refl, refl)
