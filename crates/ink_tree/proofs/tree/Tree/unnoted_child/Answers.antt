use Rattle.std.proofs.Common.{◌≡◌, arith}
use Rattle.ink_tree.proofs.Common.{nat_tests, kept_keys, story_tree, node_place}
use Rattle.ink_tree.proofs.Contents.{no_keys_in}
use Rattle.ink_tree.proofs.tree.Tree.unnoted_child.Goals as goal

pub returns-then-keys_of-eq0 : goal.returns-then-keys_of-eq0
returns-then-keys_of-eq0 c =
    let s = story_tree c.args.self.now in
    let container = c.content_of-container in
    let none : kept_keys container.result.now ≡ 0 = grind (arith, nat_tests, c.if-keys_of-eq0.true, c.keys_of.ensures) in
    no_keys_in s (node_place s c.args.holder) container.result.now c.args.name.now container.ensures none
