use Rattle.std.proofs.Common.{◌≡◌, ◌+◌, ◌-◌, drop, length}
use Rattle.ink_out.proofs.Common.{prefix_len, is_space}
use Rattle.ink_out.proofs.cutting.leading.Given as goal

abbrev pub invariant-loop-len : goal.invariant-loop-len
invariant-loop-len l = prefix_len (is_space l.space) l.bytes ≡ l.len + prefix_len (is_space l.space) (drop l.len l.bytes)

abbrev pub decreases-loop-len : goal.decreases-loop-len
decreases-loop-len l = length l.bytes - l.len
