use Rattle.std.proofs.Common.{◌∙◌, ap, is_some}
use Rattle.ink_host.specs.Desk.{watches}
use Rattle.ink_host.proofs.Entries.{found, rows_of, watched}
use Rattle.ink_host.proofs.desk.Desk.watches.Goals as goal

pub returns : goal.returns
returns g c =
    c.contains_key.ensures ∙ ap is_some (found c.args.name.now c.self.inside.watchers.entries)
    ∙ watched c.args.name.now (rows_of c.self.inside.watchers.entries) ∙ ap (λ d. watches d.watchers c.args.name.now) c.self.view_is
