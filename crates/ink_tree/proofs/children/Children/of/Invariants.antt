use Rattle.std.proofs.Common.{◌≤◌, ◌*◌, length, max}
use Rattle.ink_tree.proofs.children.Children.of.Given as goal

-- the slots stay as many
abbrev pub invariant-loop-number : goal.invariant-loop-number
invariant-loop-number l = length l.slots.items ≤ max (8 * length l.nodes) 1024
