use Rattle.ink_tree.specs.Nodes.{story_tree}
use Rattle.ink_check.proofs.leading.link.Goals as goal

pub returns-in-Value-clause-link : goal.returns-in-Value-clause-link
returns-in-Value-clause-link c = λ path read by_index. rw c.in-Value.is (c.value.ensures (story_tree c.args.tree.now) path read)
