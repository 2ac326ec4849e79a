use Rattle.ink_tree.proofs.Common.{key_part, story_tree, node_place}
use Rattle.ink_tree.proofs.Down.{stands_at, stands_not_at}
use Rattle.ink_tree.proofs.tree.Tree.is_child.Goals as goal

pub returns-in-Some-clause-yes : goal.returns-in-Some-clause-yes
returns-in-Some-clause-yes c = λ h.
    let s = story_tree c.args.self.now in
    stands_at s (node_place s c.args.holder) c.args.number c.in-Some.part c.in-Some.ensures (key_part c.args.key) (c.is_part.ensures.yes h)

pub returns-in-Some-clause-no : goal.returns-in-Some-clause-no
returns-in-Some-clause-no c = λ h _.
    let s = story_tree c.args.self.now in
    stands_not_at s (node_place s c.args.holder) c.args.number c.in-Some.part c.in-Some.ensures (key_part c.args.key) (c.is_part.ensures.no h)
