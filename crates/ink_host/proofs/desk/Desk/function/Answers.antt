use Rattle.std.proofs.Common.{◌∙◌, ap}
use Rattle.ink_host.specs.Desk.{at}
use Rattle.ink_host.proofs.Entries.{found}
use Rattle.ink_host.proofs.desk.Desk.function.Goals as goal

pub returns : goal.returns
returns g c = c.get.ensures.value ∙ found c.args.name.now c.self.inside.functions.entries ∙ ap (λ d. at c.args.name.now d.functions) c.self.view_is
