use Rattle.std.proofs.Common.{◌∙◌, ◌∷◌, ◌++◌, [], ap, is_some, sym}
use Rattle.ink_vars.proofs.Common.{stored, rows_of}
use Rattle.ink_vars.proofs.Naming.{store_new}
use Rattle.ink_vars.proofs.Noting.{none_of}
use Rattle.ink_vars.proofs.Rows.{not_in, pushed, both_longer}
use Rattle.ink_vars.proofs.table.Table.add.Goals as goal

pub add-requires : goal.add-requires
add-requires c =
    not_in c.args.name.now c.self.inside.names c.self.inside.values.items c.self.invariant
    (ap is_some (ap (stored c.args.name.now) c.self.view_is) ∙ c.requires.absent)

pub returns-clause-ok : goal.returns-clause-ok
returns-clause-ok c =
    let held = c.self.inside in
    let name = c.args.name.now in
    ap (λ names. rows_of names c.push_reserved.new.self.items) c.in_ok-add.ensures.ok
    ∙ ap (rows_of (held.names ++ name ∷ [])) (c.push_reserved.ensures.items ∙ ap (λ items. items ++ c.args.value ∷ []) c.in_ok-reserve.ensures.items)
    ∙ pushed held.names held.values.items name c.args.value c.self.invariant
    ∙ ap (λ rows. rows ++ (name, c.args.value) ∷ []) c.self.view_is
    ∙ sym (store_new name c.args.value c.args.self.now (none_of (stored name c.args.self.now) c.requires.absent))

pub invariant_of-self-2 : goal.invariant_of-self-2
invariant_of-self-2 c =
    let held = c.self.inside in
    both_longer held.names _ held.values.items c.push_reserved.new.self.items c.args.name.now c.args.value c.in_ok-add.ensures.ok (c.push_reserved.ensures.items ∙ ap (λ items. items ++ c.args.value ∷ []) c.in_ok-reserve.ensures.items) c.self.invariant
