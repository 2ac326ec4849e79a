use Rattle.std.proofs.Common.{◌∙◌, ap, map}
use Rattle.ink_parts.proofs.Common.{take_all, view, story_tree}
use Rattle.ink_parts.proofs.Arrays.{item_more}
use Rattle.ink_parts.proofs.written.write_all.Goals as goal

pub loop-item-preserved : goal.loop-item-preserved
loop-item-preserved g c =
    let spelled = g.T.Written.spelling (story_tree c.args.tree.now) in
    ap (map view) c.in_ok-push.ensures.items
    ∙ item_more spelled c.args.items.now c.loop-item.item-index c.item-item.result c.loop-item.made.items c.in_ok-write.field-0 c.loop-item-test.true
    (c.in_ok-write.ensures ∙ ap spelled c.item-item.is) c.loop-item.invariant

pub loop-item-init : goal.loop-item-init
loop-item-init g c = ap (map view) c.in_ok-made.ensures.items

pub returns : goal.returns
returns g c = c.loop-item.invariant ∙ ap (map (g.T.Written.spelling (story_tree c.args.tree.now))) (take_all c.loop-item.item-index c.args.items.now c.loop-item-test.false)
