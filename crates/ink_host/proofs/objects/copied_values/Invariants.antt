use Rattle.std.proofs.Common.{◌≡◌, take}
use Rattle.ink_host.proofs.objects.copied_values.Given as goal

abbrev pub invariant-loop-value : goal.invariant-loop-value
invariant-loop-value l = l.copies.items ≡ take l.value-index l.values
