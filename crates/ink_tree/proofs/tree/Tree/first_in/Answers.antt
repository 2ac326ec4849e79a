use Rattle.std.proofs.Common.{◌∙◌, ap, arith, length}
use Rattle.ink_tree.proofs.Common.{story_tree, node_place}
use Rattle.ink_tree.proofs.Kept.{shorter, same_way, is_there}
use Rattle.ink_tree.proofs.tree.Tree.first_in.Goals as goal

pub loop-first-preserved : goal.loop-first-preserved
loop-first-preserved c =
    let s = story_tree c.args.self.now in
    same_way s (node_place s c.loop-first.here) (node_place s c.in-Some.first) c.in-Some.ensures.place ∙ c.loop-first.invariant

pub loop-first-smaller : goal.loop-first-smaller
loop-first-smaller c =
    let s = story_tree c.args.self.now in
    let less = ap length (shorter s (node_place s c.loop-first.here) (node_place s c.in-Some.first) c.in-Some.ensures.place) in omega (arith, less)

pub returns : goal.returns
returns c =
    let s = story_tree c.args.self.now in
    is_there s (node_place s c.loop-first.here) c.in_default.ensures.place ∙ c.loop-first.invariant
