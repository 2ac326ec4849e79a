use Rattle.ink_reader.proofs.Paths.{saves_tell}
use Rattle.ink_reader.proofs.whereabouts.saves_tell_places.Goals as goal

pub returns : goal.returns
returns c = saves_tell
