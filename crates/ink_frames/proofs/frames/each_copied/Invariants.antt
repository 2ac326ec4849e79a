use Rattle.std.proofs.Common.{◌≡◌, ◌≤◌, length, take, vec_capacity}
use Rattle.ink_frames.proofs.frames.each_copied.Given as goal

abbrev pub invariant-loop-own : goal.invariant-loop-own
invariant-loop-own l = (l.copies.items ≡ take l.own-index l.temps) × (length l.temps ≤ vec_capacity l.copies)
