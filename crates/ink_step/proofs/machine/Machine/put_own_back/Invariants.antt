use Rattle.std.proofs.Common.{◌≡◌, ◌≤◌, length}
use Rattle.ink_trail.specs.Undo.{trail_of, undone}
use Rattle.ink_step.specs.Marks.{own_back, own_of}
use Rattle.ink_step.proofs.machine.Machine.put_own_back.Given as goal

-- what is still to be put back, put back on the fields now, is what it was at the start; nothing else has changed, and there is as
-- much room
abbrev pub invariant-loop-pair : goal.invariant-loop-pair
invariant-loop-pair l = record {
  own : undone own_back (trail_of l.self.trail.undo) (own_of l.self) ≡ undone own_back (trail_of l.initial.self.trail.undo) (own_of l.initial.self);
  same : l.self ≡ record l.initial.self {
    trail = l.self.trail;
    flow = record l.initial.self.flow { safe = l.self.flow.safe };
    shared = record l.initial.self.shared { turn = l.self.shared.turn };
  };
  room : l.initial.self.trail.room ≤ l.self.trail.room;
}

abbrev pub decreases-loop-pair : goal.decreases-loop-pair
decreases-loop-pair l = length (trail_of l.self.trail.undo)
