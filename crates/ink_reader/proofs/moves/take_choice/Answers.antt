use Rattle.std.proofs.Common.{refl}
use Rattle.ink_reader.proofs.Playing.{gave-kept}
use Rattle.ink_reader.proofs.moves.take_choice.Goals as goal

pub returns : goal.returns
returns g c = gave-kept (refl, c.choose.ensures.does) (refl, c.choose.ensures.desk) c.choose.ensures.desk c.choose.ensures.story
