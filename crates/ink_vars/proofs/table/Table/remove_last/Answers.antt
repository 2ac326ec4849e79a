use Rattle.std.proofs.Common.{◌≡◌, ◌∙◌, ap, length, sym, take}
use Rattle.ink_names.specs.Names.{without_last}
use Rattle.ink_vars.proofs.Common.{but_last, rows_of}
use Rattle.ink_vars.proofs.Rows.{popped, shortened}
use Rattle.ink_vars.proofs.table.Table.remove_last.Goals as goal

values : (c : goal.After-truncate) → c.truncate.new.self.items ≡ take (length (without_last c.self.inside.names)) c.self.inside.values.items
values c = c.truncate.ensures.items ∙ ap (λ n. take n c.self.inside.values.items) (c.len.ensures.len ∙ ap length c.remove_last.ensures)

pub invariant_of-self : goal.invariant_of-self
invariant_of-self c = ap length c.remove_last.ensures ∙ shortened c.self.inside.names c.self.inside.values.items c.self.invariant ∙ sym (ap length (values c))

pub returns : goal.returns
returns c =
    ap (λ names. rows_of names c.truncate.new.self.items) c.remove_last.ensures ∙ ap (rows_of (without_last c.self.inside.names)) (values c)
    ∙ popped c.self.inside.names c.self.inside.values.items c.self.invariant ∙ ap but_last c.self.view_is
