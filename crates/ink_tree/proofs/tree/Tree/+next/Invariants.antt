use Rattle.std.proofs.Common.{◌*◌, ◌+◌, length}
use Rattle.ink_tree.proofs.Common.{story_tree, node_place}
use Rattle.ink_tree.proofs.tree.Tree.+next.Given as goal

-- how many parts lead to the node
abbrev pub decreases-next_of : goal.decreases-next_of
decreases-next_of l = 2 * length (node_place (story_tree l.self.now) l.node) + 1

abbrev pub decreases-next_in : goal.decreases-next_in
decreases-next_in l = 2 * length (node_place (story_tree l.self.now) l.node)
