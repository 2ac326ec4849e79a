use Rattle.std.proofs.Common.{ap}
use Rattle.ink_host.proofs.recorder.Recorder.answer.Goals as goal

pub returns-clause-kept : goal.returns-clause-kept
returns-clause-kept c = ap (λ r. r.refusals) c.self.view_is
