use Rattle.ink_tree.proofs.Common.{story_tree, node_place}
use Rattle.ink_tree.proofs.Stepping.{index_found}
use Rattle.ink_tree.proofs.tree.Tree.step_in.Goals as goal

pub returns : goal.returns
returns c =
    let s = story_tree c.args.self.now in
    index_found s (node_place s c.args.here) c.args.index c.child_at.result c.args.self.now.rising c.child_at.ensures
