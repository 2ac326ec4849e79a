use Rattle.std.proofs.Common.{◌∙◌, Some, None, ap, slice_get}
use Rattle.ink_vars.proofs.Rows.{got, pair_at, pair_of}
use Rattle.ink_vars.proofs.table.Table.pair.Goals as goal

pub returns-in-Some-get : goal.returns-in-Some-get
returns-in-Some-get c =
    let held = c.self.inside in
    ap (λ name. pair_of name (Some c.in-Some-get.value.now)) c.in-Some.ensures.name
    ∙ ap (pair_of (slice_get held.names c.args.index)) (got c.deref.result.now held.values.items c.args.index (Some c.in-Some-get.value) c.in-Some-get.ensures.lookup c.deref.ensures.value)
    ∙ pair_at held.names held.values.items c.args.index ∙ ap (λ rows. slice_get rows c.args.index) c.self.view_is

pub returns-in-None-get : goal.returns-in-None-get
returns-in-None-get c =
    let held = c.self.inside in
    ap (λ name. pair_of name None) c.in-Some.ensures.name
    ∙ ap (pair_of (slice_get held.names c.args.index)) (got c.deref.result.now held.values.items c.args.index None c.in-None-get.ensures.lookup c.deref.ensures.value)
    ∙ pair_at held.names held.values.items c.args.index ∙ ap (λ rows. slice_get rows c.args.index) c.self.view_is

pub returns-in-None : goal.returns-in-None
returns-in-None c =
    let held = c.self.inside in
    ap (λ name. pair_of name (slice_get held.values.items c.args.index)) c.in-None.ensures.name
    ∙ pair_at held.names held.values.items c.args.index ∙ ap (λ rows. slice_get rows c.args.index) c.self.view_is
