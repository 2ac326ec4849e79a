use Rattle.std.proofs.Common.{sym}
use Rattle.ink_vars.specs.Changes.{as_they_were}
use Rattle.ink_vars.proofs.Fitting.{tracked}
use Rattle.ink_vars.proofs.globals.Globals.changed.Goals as goal

pub returns-clause-indices : goal.returns-clause-indices
returns-clause-indices g c wanted answers =
    let start = as_they_were c.self.inside.changes.noted 0 c.self.inside.table in
    rw (sym c.self.view_is) (c.changed.ensures.indices wanted start answers (tracked c.self.inside.changes c.self.inside.table c.self.invariant.0))

pub returns-clause-memory : goal.returns-clause-memory
returns-clause-memory g c wanted answers =
    let start = as_they_were c.self.inside.changes.noted 0 c.self.inside.table in
    rw (sym c.self.view_is) (c.changed.ensures.memory wanted start answers (tracked c.self.inside.changes c.self.inside.table c.self.invariant.0))
