use Rattle.std.proofs.Common.{subst}
use Rattle.ink_parts.proofs.Common.{Added, data_tokens, story_tree}
use Rattle.ink_parts.proofs.Texts.{item_more}
use Rattle.ink_parts.proofs.written.put_items.Goals as goal

pub loop-item-preserved : goal.loop-item-preserved
loop-item-preserved g c =
    let spelled = g.T.Written.spelling (story_tree c.args.tree.now) in
    item_more spelled c.args.items.now c.loop-item.item-index c.item-item.result _ _ _ c.loop-item-test.true c.loop-item.invariant
    (subst (λ x. Added c.loop-item.out c.put.new.out (data_tokens (spelled x))) c.item-item.is c.in_ok-put.ensures)
