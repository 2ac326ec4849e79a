use Rattle.std.proofs.Common.{ap}
use Rattle.ink_host.proofs.desk.Desk.close.Goals as goal

pub returns-clause-functions : goal.returns-clause-functions
returns-clause-functions g c = ap (λ d. d.functions) c.self.view_is

pub returns-clause-watchers : goal.returns-clause-watchers
returns-clause-watchers g c = ap (λ d. d.watchers) c.self.view_is
