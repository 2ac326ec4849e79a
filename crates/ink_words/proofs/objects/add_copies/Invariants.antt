use Rattle.std.proofs.Common.{◌≡◌, ◌++◌, length, take}
use Rattle.ink_words.proofs.objects.add_copies.Given as goal

abbrev pub invariant-loop-value : goal.invariant-loop-value
invariant-loop-value l = (l.copies.items ≡ l.fn.copies.items ++ take l.value-index l.values) × (l.before ≡ length l.fn.copies.items)
