use Rattle.std.proofs.Common.{Some, ap, sym, ◌∙◌}
use Rattle.ink_names.specs.Names.{number_of}
use Rattle.ink_names.proofs.Numbers.{number_behind}
use Rattle.ink_check.proofs.names.number.Goals as goal

pub returns-clause-number : goal.returns-clause-number
returns-clause-number c =
    ap (λ names. number_of names c.args.name.now) c.in_ok-add.ensures.ok
    ∙ number_behind c.args.names.now c.args.name.now (sym c.in_default.ensures)
    ∙ ap Some (sym c.len-number.ensures.len)
