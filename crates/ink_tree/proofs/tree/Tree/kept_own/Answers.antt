use Rattle.ink_tree.proofs.Common.{story_tree}
use Rattle.ink_tree.proofs.Kept.{kept_at}
use Rattle.ink_tree.proofs.tree.Tree.kept_own.Goals as goal

pub returns : goal.returns
returns c =
    kept_at (story_tree c.args.self.now) c.nodes.result.now c.nodes.ensures.many c.nodes.ensures.all c.args.own c.at.result c.requires c.at.ensures.node
