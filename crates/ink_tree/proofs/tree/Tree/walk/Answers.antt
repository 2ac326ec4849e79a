use Rattle.std.proofs.Common.{◌∙◌, ap}
use Rattle.ink_tree.proofs.Common.{stepped, story_tree, node_place}
use Rattle.ink_tree.proofs.Stepping.{walk_on}
use Rattle.ink_tree.proofs.tree.Tree.walk.Goals as goal

pub loop-component-preserved : goal.loop-component-preserved
loop-component-preserved c =
    let s = story_tree c.args.self.now in
    walk_on s (node_place s c.loop-component.here) (node_place s c.in_ok-here.here) c.component-item.result c.in-Some.last.now c.in-Some.others.now
    c.loop-component.component-index _ c.loop-component-test.true c.component-item.is (c.in_ok-here.ensures ∙ ap (stepped s (node_place s c.loop-component.here)) c.component_of.ensures) c.loop-component.invariant
