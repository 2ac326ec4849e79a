use Rattle.std.proofs.Common.{reverse, take}
use Rattle.ink_out.specs.Walks.{Walks}
use Rattle.ink_out.proofs.walk.shown_text.Given as goal

abbrev pub invariant-loop-at : goal.invariant-loop-at
invariant-loop-at l = Walks l.cleans l.enters.starts.items (reverse (take l.at l.marks)) l.walk
