use Rattle.std.proofs.Common.{arith}
use Rattle.ink_tree.proofs.Common.{story_tree, node_place}
use Rattle.ink_tree.proofs.Down.{past_width}
use Rattle.ink_tree.proofs.tree.Tree.child_at.Goals as goal

pub returns-else-index-width : goal.returns-else-index-width
returns-else-index-width c =
    let s = story_tree c.args.self.now in past_width s (node_place s c.args.holder) c.args.index (omega (arith, c.width.ensures, c.if-index-width.false))
