use Rattle.std.proofs.Common.{◌∙◌, sym}
use Rattle.ink_value.proofs.Dividing.{passed}
use Rattle.ink_value.proofs.Operands.{without_memory}
use Rattle.ink_value.proofs.operate.after_number.Goals as goal

pub returns-in-Some-clause-memory : goal.returns-in-Some-clause-memory
returns-in-Some-clause-memory c none short = without_memory c.args.operator (passed c.args.number) (passed c.in-Some.other) (sym c.of_numbers.ensures ∙ short)
