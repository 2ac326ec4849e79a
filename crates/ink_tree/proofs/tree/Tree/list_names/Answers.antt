use Rattle.std.proofs.Common.{subst}
use Rattle.ink_tree.proofs.Common.{at, MayKeepNames, KeepsNames, node_place, story_tree}
use Rattle.ink_tree.proofs.tree.Tree.list_names.Goals as goal
use Rattle.ink_tree.proofs.Kept.{all_more}

pub loop-number-preserved : goal.loop-number-preserved
loop-number-preserved c =
    let s = story_tree c.args.self.now in
    let kept = subst (MayKeepNames (at s (node_place s (record { number = c.loop-number.number })))) c.in-Some.is c.in_ok-names.ensures in
    rw c.in_ok-push.ensures.items
    (all_more c.loop-number.lists.items (record { holder = record { number = c.loop-number.number }; names = c.in-Some.names })
    (λ _ l. KeepsNames (at s (node_place s l.holder)) l.names) c.loop-number.invariant kept)
