use Rattle.std.proofs.Common.{◌∙◌, ap, slice_get, sym}
use Rattle.ink_vars.proofs.Common.{stored, global_index}
use Rattle.ink_vars.proofs.Rows.{got, value_in}
use Rattle.ink_vars.proofs.table.Table.value_at.Goals as goal

pub returns : goal.returns
returns c =
    let held = c.self.inside in
    let name = c.args.name.now in
    got c.deref.result.now held.values.items c.args.index c.get.result c.get.ensures.lookup c.deref.ensures.value
    ∙ ap (slice_get held.values.items) (c.requires.index ∙ ap (global_index name) (sym c.self.view_is)) ∙ value_in name held.names held.values.items c.self.invariant ∙ ap (stored name) c.self.view_is
