use Rattle.ink_tree.proofs.children.Children.of.Goals.{in-Some-Name, in-Some+in-Index-1, in-None-1}
use Rattle.ink_tree.proofs.children.Children.of.Goals as goal

pub loop-number-preserved : goal.loop-number-preserved
loop-number-preserved c =
    elim c.match-last.branch [
      | in-Some-Name w ↦ rw (w.slots-is, w.note-in-Some-Name.ensures) c.loop-number.invariant
      | in-Some+in-Index-1 w ↦ rw w.slots-is c.loop-number.invariant
      | in-None-1 w ↦ rw w.slots-is c.loop-number.invariant
    ]
