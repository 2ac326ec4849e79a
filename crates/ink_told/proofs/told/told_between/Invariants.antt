use Rattle.std.proofs.Common.{◌≡◌, take}
use Rattle.ink_host.specs.Desk.{watches}
use Rattle.ink_model.specs.Host.Told.{told}
use Rattle.ink_told.proofs.told.told_between.Given as goal

abbrev pub invariant-loop-index : goal.invariant-loop-index
invariant-loop-index g l = l.told.items ≡ told (watches l.desk.watchers) l.old.rows (take l.index l.new.rows)
