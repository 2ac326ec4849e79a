use Rattle.std.proofs.Common.{◌∙◌, ap}
use Rattle.ink_host.specs.Desk.{counted}
use Rattle.ink_host.proofs.recorder.Recorder.open.Goals as goal

pub returns-then-is_err-clause-counts : goal.returns-then-is_err-clause-counts
returns-then-is_err-clause-counts c = c.lack-then-is_err.ensures.counts ∙ ap (λ r. counted r.refusals) c.self.view_is

pub returns-clause-kept : goal.returns-clause-kept
returns-clause-kept c = ap (λ r. r.refusals) c.self.view_is
