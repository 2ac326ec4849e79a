use Rattle.ink_check.specs.Standing.{story_tree}
use Rattle.ink_tree.specs.Nodes.{story_tree as kept}
use Rattle.ink_effects.proofs.Externals.{knot_there, no_knot}
use Rattle.ink_effects.proofs.host.fall_back.Goals as goal

pub returns-in_default : goal.returns-in_default
returns-in_default c f =
    no_knot (story_tree c.args.story.now) (kept c.tree-tree.result.now) c.tree-tree.ensures.tree c.args.name.now f c.in_default.ensures.place

pub returns : goal.returns
returns c f =
    rw c.entering.ensures (knot_there (story_tree c.args.story.now) (kept c.tree-tree.result.now) c.tree-tree.ensures.tree c.args.name.now f c.in-Some.holder c.land-place.result c.in-Some.ensures.place
    c.land-place.ensures)
