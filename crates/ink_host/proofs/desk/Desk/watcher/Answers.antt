use Rattle.std.proofs.Common.{◌∙◌, ap}
use Rattle.ink_host.specs.Desk.{at}
use Rattle.ink_host.proofs.Entries.{found}
use Rattle.ink_host.proofs.desk.Desk.watcher.Goals as goal

pub returns : goal.returns
returns g c = c.get.ensures.value ∙ found c.args.name.now c.self.inside.watchers.entries ∙ ap (λ d. at c.args.name.now d.watchers) c.self.view_is
