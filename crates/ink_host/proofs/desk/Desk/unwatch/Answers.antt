use Rattle.std.proofs.Common.{◌∙◌, ap}
use Rattle.ink_host.specs.Desk.{at, without}
use Rattle.ink_host.proofs.Entries.{desk_of, found, removed, rows_of}
use Rattle.ink_host.proofs.desk.Desk.unwatch.Goals as goal

pub returns-clause-old : goal.returns-clause-old
returns-clause-old g c =
    c.shift_remove.ensures.value ∙ found c.args.name.now c.self.inside.watchers.entries ∙ ap (λ d. at c.args.name.now d.watchers) c.self.view_is

pub returns-clause-left : goal.returns-clause-left
returns-clause-left g c =
    ap (λ rows. desk_of (rows_of c.self.inside.functions.entries) rows c.self.inside.events.items c.self.inside.next)
    (ap rows_of c.shift_remove.ensures.entries ∙ removed c.args.name.now c.self.inside.watchers.entries)
    ∙ ap (λ d. desk_of d.functions (without c.args.name.now d.watchers) d.events d.next) c.self.view_is
