use Rattle.ink_tree.proofs.Common.{story_tree}
use Rattle.ink_tree.proofs.Numbered.{all_kept, keeps_all}
use Rattle.ink_tree.proofs.tree.Tree.nodes.Goals as goal

pub returns-clause-all : goal.returns-clause-all
returns-clause-all c = keeps_all (story_tree c.args.self.now) c.nodes.result.now c.nodes.ensures.nodes c.nodes.ensures.rising

pub returns-clause-many : goal.returns-clause-many
returns-clause-many c = all_kept (story_tree c.args.self.now) c.nodes.result.now c.nodes.ensures.nodes
