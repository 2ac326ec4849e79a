use Rattle.ink_sound.proofs.Beside.{does_beside}
use Rattle.ink_sound.proofs.other_flows_do_not_show.Goals as goal

pub returns : goal.returns
returns c = does_beside
