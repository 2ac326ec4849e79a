use Rattle.std.proofs.Common.{◌-◌}
use Rattle.ink_model.specs.Story.Tree.{down}
use Rattle.ink_json.specs.Descent.{tree_at}
use Rattle.ink_json.specs.Order.{key_part}
use Rattle.ink_json.proofs.Downward.{Walk}
use Rattle.ink_json.proofs.descent.child.Given as goal

-- so far nothing stands at the part: what does is still to come
abbrev pub invariant-loop-next : goal.invariant-loop-next
invariant-loop-next l = Walk l.nodes l.next l.end l.number (key_part l.part) (down (key_part l.part) (tree_at l.nodes l.number))

abbrev pub decreases-loop-next : goal.decreases-loop-next
decreases-loop-next l = l.end - l.next
