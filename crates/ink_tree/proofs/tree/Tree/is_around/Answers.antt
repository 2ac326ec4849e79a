use Rattle.std.proofs.Common.{◌≡◌, ◌∙◌, true, false, nat_le, arith}
use Rattle.ink_tree.proofs.Common.{nat_tests, story_tree, node_place}
use Rattle.ink_tree.proofs.Kept.{around_by_number}
use Rattle.ink_tree.proofs.tree.Tree.is_around.Goals as goal

pub returns-then-container-node : goal.returns-then-container-node
returns-then-container-node c =
    let s = story_tree c.args.self.now in
    let a = c.own-container in
    let q = c.own-node in
    around_by_number s (node_place s c.args.container) (node_place s c.args.node) a.result q.result c.behind-behind.result true a.ensures q.ensures c.behind-behind.ensures
    (grind (arith, nat_tests, c.if-container-node.true))

pub returns-else-container-node : goal.returns-else-container-node
returns-else-container-node c =
    let s = story_tree c.args.self.now in
    let a = c.own-container in
    let q = c.own-node in
    let low : nat_le a.result.number q.result.number ≡ false = grind (arith, nat_tests, c.if-container-node.false) in
    low ∙ around_by_number s (node_place s c.args.container) (node_place s c.args.node) a.result q.result c.behind-behind.result false a.ensures q.ensures c.behind-behind.ensures low
