use Rattle.std.proofs.Common.{◌∙◌, Some, None, ap}
use Rattle.ink_model.specs.Variables.Store.{stored}
use Rattle.ink_vars.proofs.Rows.{at_number, got, stored_in}
use Rattle.ink_vars.proofs.table.Table.find.Goals as goal

pub returns-in-Some-get : goal.returns-in-Some-get
returns-in-Some-get c =
    let held = c.self.inside in
    got c.deref.result.now held.values.items c.in-Some.index (Some c.in-Some-get.value) c.in-Some-get.ensures.lookup c.deref.ensures.value
    ∙ ap (λ o. at_number o held.values.items) c.in-Some.ensures ∙ stored_in c.args.name.now held.names held.values.items c.self.invariant ∙ ap (stored c.args.name.now) c.self.view_is

pub returns-in-None-get : goal.returns-in-None-get
returns-in-None-get c =
    let held = c.self.inside in
    got c.deref.result.now held.values.items c.in-Some.index None c.in-None-get.ensures.lookup c.deref.ensures.value
    ∙ ap (λ o. at_number o held.values.items) c.in-Some.ensures ∙ stored_in c.args.name.now held.names held.values.items c.self.invariant ∙ ap (stored c.args.name.now) c.self.view_is

pub returns-in-None : goal.returns-in-None
returns-in-None c =
    let held = c.self.inside in
    ap (λ o. at_number o held.values.items) c.in-None.ensures ∙ stored_in c.args.name.now held.names held.values.items c.self.invariant ∙ ap (stored c.args.name.now) c.self.view_is
