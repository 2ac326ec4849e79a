use Rattle.std.proofs.Common.{◌*◌, ◌+◌, length}
use Rattle.ink_tree.proofs.Common.{story_tree, node_place}
use Rattle.ink_tree.proofs.tree.Tree.+flagged.Given as goal

-- how many parts lead to the node
abbrev pub decreases-is_flagged : goal.decreases-is_flagged
decreases-is_flagged l = 2 * length (node_place (story_tree l.self.now) l.node)

abbrev pub decreases-has_flags_from : goal.decreases-has_flags_from
decreases-has_flags_from l = 2 * length (node_place (story_tree l.self.now) l.holder) + 1
