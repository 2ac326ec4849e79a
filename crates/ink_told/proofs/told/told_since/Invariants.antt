use Rattle.std.proofs.Common.{◌≡◌, take}
use Rattle.ink_told.proofs.Telling.{told_at}
use Rattle.ink_told.proofs.told.told_since.Given as goal

abbrev pub invariant-loop-index : goal.invariant-loop-index
invariant-loop-index g l = l.told.items ≡ told_at l.globals.rows (take l.index-index l.index-items)
