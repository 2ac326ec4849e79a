use Rattle.std.proofs.Common.{◌≡◌, drop}
use Rattle.ink_model.specs.Values.Value as values
use Rattle.ink_value.proofs.targets.same_parts.Given as goal

abbrev pub invariant-loop-i : goal.invariant-loop-i
invariant-loop-i l = values.same_parts (drop l.i l.left) (drop l.i l.right) ≡ values.same_parts l.left l.right
