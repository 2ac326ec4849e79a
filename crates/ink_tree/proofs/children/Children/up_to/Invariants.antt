use Rattle.std.proofs.Common.{◌-◌}
use Rattle.ink_tree.proofs.children.Children.up_to.Given as goal

-- how many are left to look at
abbrev pub decreases-loop-low : goal.decreases-loop-low
decreases-loop-low l = l.high - l.low
