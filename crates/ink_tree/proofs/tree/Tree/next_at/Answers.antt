use Rattle.std.proofs.Common.{◌∙◌, ◌+◌, ◌<◌, ◌≤◌, refl, arith}
use Rattle.ink_tree.proofs.Common.{at, width, story_tree, node_place}
use Rattle.ink_tree.proofs.Kept.{next_found}
use Rattle.ink_tree.proofs.Next.{next_outside}
use Rattle.ink_tree.proofs.tree.Tree.next_at.Goals as goal

pub returns-then-index-width : goal.returns-then-index-width
returns-then-index-width c =
    let s = story_tree c.args.self.now in
    let up = node_place s c.args.holder in
    let below : c.args.index + 1 < width (at s up) = omega (arith, c.width.ensures, c.if-index-width.true) in
    next_found s up up c.args.index c.child_at.result refl below c.child_at.ensures

pub returns-else-index-width : goal.returns-else-index-width
returns-else-index-width c =
    let s = story_tree c.args.self.now in
    let up = node_place s c.args.holder in
    let past : width (at s up) ≤ c.args.index + 1 = omega (arith, c.width.ensures, c.if-index-width.false) in
    c.next_node.ensures ∙ next_outside s up c.args.index past
