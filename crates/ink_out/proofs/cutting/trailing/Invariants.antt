use Rattle.std.proofs.Common.{◌≡◌, ◌≤◌, ◌+◌, ◌-◌, length, take}
use Rattle.ink_out.proofs.Common.{suffix_len, is_space}
use Rattle.ink_out.proofs.cutting.trailing.Given as goal

abbrev pub invariant-loop-start : goal.invariant-loop-start
invariant-loop-start l =
    (l.start ≤ length l.bytes)
    × (suffix_len (is_space l.space) l.bytes ≡ length l.bytes - l.start + suffix_len (is_space l.space) (take l.start l.bytes))

abbrev pub decreases-loop-start : goal.decreases-loop-start
decreases-loop-start l = l.start
