use Rattle.std.proofs.Common.{arith}
use Rattle.ink_tree.proofs.Common.{story_tree}
use Rattle.ink_tree.proofs.Kept.{root_for}
use Rattle.ink_tree.proofs.tree.Tree.own.Goals as goal

pub returns-else-node-len : goal.returns-else-node-len
returns-else-node-len c = root_for (story_tree c.args.self.now) c.args.node (omega (arith, c.len.ensures.all, c.if-node-len.false))
