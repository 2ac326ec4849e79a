use Rattle.std.proofs.Common.{length}
use Rattle.ink_tree.specs.Nodes.{story_tree, node_place}
use Rattle.ink_parts.proofs.placed.+put_node.Given as goal

-- how many parts lead to the node
abbrev pub decreases-put_node : goal.decreases-put_node
decreases-put_node l = length (node_place (story_tree l.tree.now) l.node)
