use Rattle.std.proofs.Common.{◌-◌, arith}
use Rattle.std.proofs.lemmas.Nat.{and_le_r}
use Rattle.ink_names.proofs.hints.slot.Goals as goal

pub returns-clause-within : goal.returns-clause-within
returns-clause-within c = omega (arith, and_le_r c.hash.result (c.args.slots - 1), c.requires)
