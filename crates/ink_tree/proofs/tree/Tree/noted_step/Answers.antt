use Rattle.std.proofs.Common.{◌∙◌, sym}
use Rattle.ink_tree.proofs.Common.{story_tree, node_place}
use Rattle.ink_tree.proofs.Stepping.{key_step}
use Rattle.ink_tree.proofs.tree.Tree.noted_step.Goals as goal

pub returns : goal.returns
returns c =
    let s = story_tree c.args.self.now in
    key_step s (node_place s c.args.here) c.args.name.now c.noted_child.result c.args.self.now.rising (sym c.is_up.ensures ∙ c.if-is_up.false) c.noted_child.ensures
