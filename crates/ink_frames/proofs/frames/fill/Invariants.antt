use Rattle.std.proofs.Common.{◌≡◌, ◌≤◌, ◌-◌, ◌++◌, [], replicate, vec_capacity}
use Rattle.ink_frames.proofs.frames.fill.Given as goal

abbrev pub invariant-loop-left : goal.invariant-loop-left
invariant-loop-left l = record {
  some : l.left ≤ l.count;
  items : l.temps.items ≡ l.initial.temps.items ++ replicate (l.count - l.left) [];
  room : vec_capacity l.temps ≡ vec_capacity l.initial.temps;
}

abbrev pub decreases-loop-left : goal.decreases-loop-left
decreases-loop-left l = l.left
