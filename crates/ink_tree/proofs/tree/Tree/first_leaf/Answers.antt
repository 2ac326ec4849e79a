use Rattle.std.proofs.Common.{◌∙◌, ap}
use Rattle.ink_tree.proofs.Common.{content_place, story_tree}
use Rattle.ink_tree.proofs.Further.{enters_nothing}
use Rattle.ink_tree.proofs.Kept.{on_node}
use Rattle.ink_tree.proofs.tree.Tree.first_leaf.Goals as goal

pub returns-in-None-clause-spot : goal.returns-in-None-clause-spot
returns-in-None-clause-spot c = enters_nothing _ _ c.in-None.ensures

pub returns-in-Some-clause-spot : goal.returns-in-Some-clause-spot
returns-in-Some-clause-spot c =
    let s = story_tree c.args.self.now in
    on_node s c.of.result c.first_in-first.result c.of.ensures.holder c.of.ensures.index ∙ c.first_in-first.ensures ∙ ap (content_place s) c.in-Some.ensures.1
