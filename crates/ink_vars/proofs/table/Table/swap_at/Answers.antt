use Rattle.std.proofs.Common.{◌≡◌, ◌∙◌, ◌<◌, Some, ap, length, set, slice_get, subst, sym}
use Rattle.ink_vars.specs.Globals.{rows_of, set_value_at}
use Rattle.ink_vars.proofs.Rows.{as_many, item_at, swapped, written}
use Rattle.ink_vars.proofs.table.Table.swap_at.Goals as goal

pub index_mut-requires : goal.index_mut-requires
index_mut-requires c =
    let held = c.self.inside in
    subst (λ n. c.args.index < n) (sym (as_many held.names held.values.items c.self.invariant ∙ ap length c.self.view_is) ∙ c.self.invariant ∙ sym held.values.ok.0) c.requires

pub returns-clause-written : goal.returns-clause-written
returns-clause-written c =
    let held = c.self.inside in
    ap (λ v. rows_of held.names (set held.values.items c.args.index v)) c.replace.ensures.after
    ∙ written held.names held.values.items c.args.index c.args.value ∙ ap (λ rows. set_value_at rows c.args.index c.args.value) c.self.view_is

pub returns-clause-before : goal.returns-clause-before
returns-clause-before c =
    let held = c.self.inside in
    let index = c.args.index in
    let within : index < length held.values.items = subst (λ n. index < n) (sym (as_many held.names held.values.items c.self.invariant ∙ ap length c.self.view_is) ∙ c.self.invariant) c.requires in
    let at : slice_get held.values.items index ≡ Some c.replace.result = item_at held.values.items index c.replace.result _ within (c.replace.ensures.value ∙ c.index_mut.ensures.value) in
    ap (λ v. set_value_at (rows_of held.names (set held.values.items index v)) index c.replace.result) c.replace.ensures.after
    ∙ ap (λ rows. set_value_at rows index c.replace.result) (written held.names held.values.items index c.args.value)
    ∙ swapped held.names held.values.items index c.args.value c.replace.result at ∙ c.self.view_is
