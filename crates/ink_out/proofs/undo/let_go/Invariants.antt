use Rattle.std.proofs.Common.{◌≤◌, length}
use Rattle.ink_out.proofs.undo.let_go.Given as goal
use Rattle.ink_trail.specs.Undo.{trail_of}

abbrev pub invariant-loop-pair : goal.invariant-loop-pair
invariant-loop-pair l = l.initial.trail.room ≤ l.trail.room

abbrev pub decreases-loop-pair : goal.decreases-loop-pair
decreases-loop-pair l = length (trail_of l.trail.undo)
