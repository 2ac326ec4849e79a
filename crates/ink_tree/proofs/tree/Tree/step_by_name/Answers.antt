use Rattle.ink_tree.proofs.Common.{story_tree, node_place}
use Rattle.ink_tree.proofs.Stepping.{key_found}
use Rattle.ink_tree.proofs.tree.Tree.step_by_name.Goals as goal

pub returns-in-Some : goal.returns-in-Some
returns-in-Some c =
    let s = story_tree c.args.self.now in
    key_found s (node_place s c.args.here) c.args.name.now c.in-Some.node c.args.self.now.rising c.in-Some.ensures.1
