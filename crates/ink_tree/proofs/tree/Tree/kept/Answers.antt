use Rattle.std.proofs.Common.{sym, subst}
use Rattle.ink_tree.proofs.Common.{KeepsContent, story_tree}
use Rattle.ink_tree.proofs.tree.Tree.kept.Goals as goal

pub returns-in-Some : goal.returns-in-Some
returns-in-Some c = (c.nodes.ensures.all c.args.node.number c.in-Some.kept (sym c.in-Some.ensures)).0

pub returns-in-None : goal.returns-in-None
returns-in-None c = subst (λ p. KeepsContent (story_tree c.args.self.now) p c.kept_own.result) c.own.ensures.1 c.kept_own.ensures.0
