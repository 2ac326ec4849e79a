use Rattle.std.proofs.Common.{◌∙◌, ap, sym, arith}
use Rattle.ink_tree.proofs.Common.{landed, width, story_tree, node_place, place_of}
use Rattle.ink_tree.proofs.Kept.{lands_first, lands_there, on_node}
use Rattle.ink_tree.proofs.Next.{landed_on}
use Rattle.ink_tree.proofs.tree.Tree.land.Goals as goal

pub returns-in_default : goal.returns-in_default
returns-in_default c =
    let s = story_tree c.args.self.now in
    landed_on s (place_of s c.args.spot) (omega (arith, ap width c.in_default.ensures))

pub returns-in-Some-first : goal.returns-in-Some-first
returns-in-Some-first c =
    let s = story_tree c.args.self.now in
    on_node s c.of.result c.in-Some-first.first c.of.ensures.holder c.of.ensures.index
    ∙ lands_first s (node_place s c.in-Some.node) (node_place s c.in-Some-first.first) c.in-Some-first.ensures.place
    ∙ ap (landed s) c.in-Some.ensures.1

pub returns-in-None : goal.returns-in-None
returns-in-None c =
    let s = story_tree c.args.self.now in
    sym c.in-Some.ensures.1 ∙ lands_there s (node_place s c.in-Some.node) c.in-None.ensures.place ∙ ap (landed s) c.in-Some.ensures.1
