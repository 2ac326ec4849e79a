use Rattle.std.proofs.Common.{◌∙◌, ap, arith, sym}
use Rattle.ink_vars.specs.Undo.{global_back}
use Rattle.ink_vars.proofs.Rows.{not_written}
use Rattle.ink_vars.proofs.table.Table.put_one_back.Goals as goal

pub returns-then-index-len : goal.returns-then-index-len
returns-then-index-len c = c.swap_at-before.ensures.written ∙ ap (λ pair. global_back pair c.args.self.now) (sym c.in-Changed.is)

pub returns-else-index-len : goal.returns-else-index-len
returns-else-index-len c =
    sym (not_written c.args.self.now c.in-Changed.index c.in-Changed.value (omega (arith, c.len.ensures.len, c.if-index-len.false))) ∙ ap (λ pair. global_back pair c.args.self.now) (sym c.in-Changed.is)
