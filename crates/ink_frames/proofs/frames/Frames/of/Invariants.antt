use Rattle.std.proofs.Common.{◌≡◌}
use Rattle.ink_frames.proofs.frames.Frames.of.Given as goal

abbrev pub invariant-loop-frame : goal.invariant-loop-frame
invariant-loop-frame g l = l.made.items ≡ l.yielded
