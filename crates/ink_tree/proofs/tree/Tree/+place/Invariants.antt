use Rattle.std.proofs.Common.{◌+◌, ◌*◌, length}
use Rattle.ink_tree.proofs.Common.{story_tree, node_place}
use Rattle.ink_tree.proofs.tree.Tree.+place.Given as goal

-- how many parts lead to the node
abbrev pub decreases-place_at : goal.decreases-place_at
decreases-place_at l = 2 * length (node_place (story_tree l.self.now) l.node)

abbrev pub decreases-place_under : goal.decreases-place_under
decreases-place_under l = 2 * length (node_place (story_tree l.self.now) l.holder) + 1
