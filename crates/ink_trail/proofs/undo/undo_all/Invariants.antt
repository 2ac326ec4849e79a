use Rattle.std.proofs.Common.{◌≡◌, ◌≤◌, length}
use Rattle.ink_trail.specs.Undo.{stood, trail_of}
use Rattle.ink_trail.proofs.undo.undo_all.Given as goal

abbrev pub invariant-loop : goal.invariant-loop
invariant-loop g l = record {
  stood : stood g.U.Undo.before (g.U.Undo.trail l.part) (g.U.Undo.cells l.part)
      ≡ stood g.U.Undo.before (g.U.Undo.trail l.initial.part) (g.U.Undo.cells l.initial.part);
  room : (g.U.Undo.trail l.initial.part).room ≤ (g.U.Undo.trail l.part).room;
  aside : g.U.Undo.aside l.part ≡ g.U.Undo.aside l.initial.part;
}

abbrev pub decreases-loop : goal.decreases-loop
decreases-loop g l = length (trail_of (g.U.Undo.trail l.part).undo)
