use Rattle.std.proofs.Common.{◌≡◌, filter, string_bytes, take}
use Rattle.ink_host.specs.Desk.{entries_as_rows, watches}
use Rattle.ink_host.proofs.telling.watched_among.Given as goal

abbrev pub invariant-loop-change : goal.invariant-loop-change
invariant-loop-change g l =
    l.told.items ≡ filter (λ c. watches (entries_as_rows string_bytes (λ w. w) l.watchers.entries) c.name) (take l.change-index l.changes)
