use Rattle.ink_tree.proofs.Common.{story_tree}
use Rattle.ink_tree.proofs.Absent.{stands}
use Rattle.ink_tree.proofs.Spots.{there}
use Rattle.ink_tree.proofs.tree.Tree.spot_on.Goals as goal

pub returns : goal.returns
returns c =
    let s = story_tree c.args.self.now in
    let n = c.in_ok-find.field-0 in
    there s c.args.parts.now c.of.result n c.of.ensures.holder c.of.ensures.index c.in_ok-find.ensures.1 (stands s c.args.parts.now n c.args.self.now.rising c.in_ok-find.ensures)
