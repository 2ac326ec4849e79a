use Rattle.std.proofs.Common.{sym, ◌∙◌}
use Rattle.json_tape.proofs.Rise.{risen}
use Rattle.json_tape.proofs.Spelled.{readable}
use Rattle.json_tape.proofs.ordered.Ordered.of.Goals as goal

pub invariant_of-result : goal.invariant_of-result
invariant_of-result c =
    let tokens = c.args.value.element in
    let spells = readable tokens c.args.value.readable in
    record { ordered = risen tokens spells.0 spells.1 (sym c.objects_rise.ensures ∙ c.if-objects_rise.true) }
