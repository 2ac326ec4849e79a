use Rattle.std.proofs.Common.{◌≡◌, map, take}
use Rattle.ink_parts.proofs.Common.{view, row_data, rows_at, story_tree, rows_from}
use Rattle.ink_parts.proofs.counts.write_slots.Given as goal

abbrev pub invariant-loop-number : goal.invariant-loop-number
invariant-loop-number l = map view l.made.items ≡ map row_data (rows_at (story_tree l.tree) (rows_from 0 (take l.number l.slots)))
