use Rattle.std.proofs.Common.{◌≡◌, ◌≤◌, length, take, vec_capacity}
use Rattle.ink_frames.proofs.temp_rows.all_copied.Given as goal

abbrev pub invariant-loop-row : goal.invariant-loop-row
invariant-loop-row l = (l.copies.items ≡ take l.row-index l.rows) × (length l.rows ≤ vec_capacity l.copies)
