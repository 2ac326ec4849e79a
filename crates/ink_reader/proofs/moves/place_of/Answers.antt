use Rattle.std.proofs.Common.{refl}
use Rattle.ink_reader.proofs.Playing.{gave-still}
use Rattle.ink_reader.proofs.moves.place_of.Goals as goal

pub returns : goal.returns
returns g c = gave-still (refl, c.save.ensures.does) (refl, refl)
