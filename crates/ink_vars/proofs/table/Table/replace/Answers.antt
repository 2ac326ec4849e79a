use Rattle.std.proofs.Common.{◌∙◌, ◌<◌, ap, is_some, subst, sym}
use Rattle.ink_model.specs.Variables.Store.{store, stored}
use Rattle.ink_vars.proofs.Rows.{index_of, is_in, stored_over, within}
use Rattle.ink_vars.proofs.table.Table.replace.Goals as goal

pub index_mut-requires : goal.index_mut-requires
index_mut-requires c =
    let held = c.self.inside in
    subst (λ n. c.in-Some.index < n) (c.self.invariant ∙ sym held.values.ok.0) (within c.args.name.now held.names c.in-Some.index (sym c.in-Some.ensures))

pub returns-in-Some-clause-found : goal.returns-in-Some-clause-found
returns-in-Some-clause-found c =
    let held = c.self.inside in
    ap is_some c.in-Some.ensures ∙ is_in c.args.name.now held.names held.values.items c.self.invariant ∙ ap is_some (ap (stored c.args.name.now) c.self.view_is)

pub returns-in-Some-clause-ok : goal.returns-in-Some-clause-ok
returns-in-Some-clause-ok c =
    let held = c.self.inside in
    let name = c.args.name.now in
    stored_over name held.names held.values.items c.in-Some.index c.args.value c.self.invariant
    (index_of name held.names held.values.items c.in-Some.index c.self.invariant (sym c.in-Some.ensures))
    (subst (λ n. c.in-Some.index < n) c.self.invariant (within name held.names c.in-Some.index (sym c.in-Some.ensures))) ∙ ap (store name c.args.value) c.self.view_is

pub returns-in-None-clause-found : goal.returns-in-None-clause-found
returns-in-None-clause-found c =
    let held = c.self.inside in
    ap is_some c.in-None.ensures ∙ is_in c.args.name.now held.names held.values.items c.self.invariant ∙ ap is_some (ap (stored c.args.name.now) c.self.view_is)
