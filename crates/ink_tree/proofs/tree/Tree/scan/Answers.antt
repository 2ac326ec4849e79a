use Rattle.std.proofs.Common.{◌++◌, ◌∷◌, [], arith}
use Rattle.ink_tree.proofs.Common.{key_part, story_tree, node_place}
use Rattle.ink_tree.proofs.Absent.{nowhere}
use Rattle.ink_tree.proofs.tree.Tree.scan.Goals as goal

pub returns : goal.returns
returns c =
    let s = story_tree c.args.self.now in
    nowhere s (node_place s c.args.holder ++ key_part c.args.key ∷ [])
    (λ i within. c.loop-number.invariant i (omega (arith, within, c.len-number-end.ensures.all, c.loop-number-test.false)))
