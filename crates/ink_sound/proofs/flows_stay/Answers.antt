use Rattle.ink_sound.proofs.Beside.{flows_stay_by}
use Rattle.ink_sound.proofs.flows_stay.Goals as goal

pub returns : goal.returns
returns c = flows_stay_by
