use Rattle.std.proofs.Common.{refl, sym}
use Rattle.ink_tree.proofs.Common.{at, story_tree, node_place}
use Rattle.ink_tree.proofs.Stepping.{key_found, named_found}
use Rattle.ink_tree.proofs.tree.Tree.step_unnoted.Goals as goal

pub returns-in-Some : goal.returns-in-Some
returns-in-Some c =
    let s = story_tree c.args.self.now in
    key_found s (node_place s c.args.here) c.args.name.now c.in-Some.node c.args.self.now.rising c.in-Some.ensures.1

pub returns : goal.returns
returns c =
    let s = story_tree c.args.self.now in
    let p = node_place s c.args.here in
    named_found s p c.args.name.now (at s p) refl c.in_ok-index.index c.child_at.result c.in_default.ensures (sym c.in_ok-index.ensures) c.child_at.ensures
