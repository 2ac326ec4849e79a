use Rattle.std.proofs.Common.{◌≡◌, map, take}
use Rattle.ink_parts.proofs.Common.{view, global_data}
use Rattle.ink_parts.proofs.globals.write_rows.Given as goal

abbrev pub invariant-loop-index : goal.invariant-loop-index
invariant-loop-index l = map view l.made.items ≡ map global_data (take l.index l.globals.rows)
