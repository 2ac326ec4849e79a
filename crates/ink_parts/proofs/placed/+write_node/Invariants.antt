use Rattle.std.proofs.Common.{length}
use Rattle.ink_tree.specs.Nodes.{story_tree, node_place}
use Rattle.ink_parts.proofs.placed.+write_node.Given as goal

-- how many parts lead to the node
abbrev pub decreases-write_node : goal.decreases-write_node
decreases-write_node l = length (node_place (story_tree l.tree.now) l.node)
