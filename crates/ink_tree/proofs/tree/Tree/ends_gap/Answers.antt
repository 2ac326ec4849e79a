use Rattle.ink_tree.proofs.Common.{key_part, story_tree, node_place}
use Rattle.ink_tree.proofs.Gaps.{before_child, before_end}
use Rattle.ink_tree.proofs.tree.Tree.ends_gap.Goals as goal

pub returns-then-behind-number : goal.returns-then-behind-number
returns-then-behind-number c = λ _.
    let t = c.args.self.now in
    let s = story_tree t in
    before_end s t.rising (node_place s c.args.holder) (key_part c.args.key) c.own.result c.behind.result c.args.number c.own.ensures.1 c.behind.ensures c.if-behind-number.true

pub returns-in-Some : goal.returns-in-Some
returns-in-Some c = λ h.
    let t = c.args.self.now in
    let s = story_tree t in
    before_child s t.rising (node_place s c.args.holder) (key_part c.args.key) (record { number = c.args.number }) c.in-Some.ensures.0 (key_part c.in-Some.part)
    c.in-Some.ensures.1 (c.is_before.ensures h)
