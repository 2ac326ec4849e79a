use Rattle.ink_sound.proofs.Aside.{going_all, going_current}
use Rattle.ink_sound.proofs.going_keeps_flows.Goals as goal

pub returns : goal.returns
returns c = λ fresh name before h. (going_all fresh name before h, going_current fresh name before h)
