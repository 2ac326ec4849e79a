use Rattle.ink_tree.specs.Nodes.{story_tree}
use Rattle.ink_restore.proofs.Leading.{leads_if}
use Rattle.ink_restore.proofs.fitting.leads.Goals as goal

pub returns-then-not-path : goal.returns-then-not-path
returns-then-not-path c = leads_if (story_tree c.args.tree.now) _ c.args.path.now c.resolve.result c.is_some.result c.if-not-path.true c.requires c.resolve.ensures c.is_some.ensures
