use Rattle.std.proofs.Common.{[]}
use Rattle.ink_model.specs.Run.Moments.{At}
use Rattle.ink_sound.proofs.Steps.{run_fits}
use Rattle.ink_sound.proofs.runs_keep_sound.Goals as goal

pub returns : goal.returns
returns c = λ s story b x h answers n. run_fits s story b n (At x answers []) h
