use Rattle.ink_tree.proofs.Kept.{may_be_linked}
use Rattle.ink_tree.proofs.tree.Tree.linked.Goals as goal

pub returns : goal.returns
returns c = may_be_linked _ c.args.self.now.links.items c.args.node.number c.link_at.result c.args.self.now.linked c.link_at.ensures
