use Rattle.std.proofs.Common.{[], ◌∷◌, ◌++◌}
use Rattle.ink_tree.proofs.Common.{key_part, story_tree, node_place}
use Rattle.ink_tree.proofs.Gaps.{no_number}
use Rattle.ink_tree.proofs.tree.Tree.is_gap.Goals as goal

pub returns-in-Some : goal.returns-in-Some
returns-in-Some c = λ h.
    let s = story_tree c.args.self.now in
    no_number s (node_place s c.args.holder ++ key_part c.args.key ∷ []) c.in-Some.start c.in-Some.ensures (c.ends_gap.ensures h)
