use Rattle.std.proofs.Common.{◌∙◌, ap}
use Rattle.ink_step.specs.Marks.{stood_of}
use Rattle.ink_step.proofs.machine.Machine.end_freshness.Goals as goal

pub returns-clause-mark : goal.returns-clause-mark
returns-clause-mark c = ap (λ o. record (stood_of c.args.self.now) { threads = o }) (c.end_freshness.ensures.stood ∙ c.ready_threads.ensures.stood)
