use Rattle.std.proofs.Common.{◌∙◌, ◌++◌, ap, sym}
use Rattle.ink_tree.proofs.Common.{is_around, Index, story_tree, node_place, index_part, place_of}
use Rattle.ink_tree.proofs.Prefixes.{around_same, around_above}
use Rattle.ink_tree.proofs.tree.Tree.is_around_spot.Goals as goal

pub returns-then-is_child : goal.returns-then-is_child
returns-then-is_child c =
    let s = story_tree c.args.self.now in
    let x = c.args.spot in
    c.if-is_child.true
    ∙ around_same (node_place s c.args.container) (place_of s x)
    (sym c.own.ensures.1 ∙ (c.is_child.ensures.yes c.if-is_child.true).1 ∙ ap (λ o. node_place s x.holder ++ index_part o) (sym c.in-Some.is))

pub returns-else-is_child : goal.returns-else-is_child
returns-else-is_child c =
    let s = story_tree c.args.self.now in
    let x = c.args.spot in
    let p = node_place s c.args.container in
    c.is_around-else-is_child.ensures
    ∙ sym (around_above p (node_place s x.holder) (Index c.in-Some.index) (λ e. c.is_child.ensures.no c.if-is_child.false c.own.ensures.0 (c.own.ensures.1 ∙ e)))
    ∙ ap (λ o. is_around p (node_place s x.holder ++ index_part o)) (sym c.in-Some.is)
