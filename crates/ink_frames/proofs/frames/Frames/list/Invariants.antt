use Rattle.std.proofs.Common.{◌≡◌, ◌≤◌, length, take, vec_capacity}
use Rattle.ink_frames.proofs.frames.Frames.list.Given as goal

abbrev pub invariant-loop-index : goal.invariant-loop-index
invariant-loop-index g l = (l.list.items ≡ take l.index l.self.items) × (length l.self.items ≤ vec_capacity l.list)
