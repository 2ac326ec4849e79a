use Rattle.std.proofs.Common.{◌∙◌, ap, sym, option_map}
use Rattle.ink_tree.proofs.Common.{key_part, story_tree, node_place}
use Rattle.ink_tree.proofs.Kept.{led_by, led_by_none}
use Rattle.ink_tree.proofs.tree.Tree.above.Goals as goal

pub returns-in-Some : goal.returns-in-Some
returns-in-Some c =
    let s = story_tree c.args.self.now in
    let k = c.kept-kept in
    rw c.holder.ensures (k.ensures.0, led_by s (node_place s c.args.node) k.result k.ensures (key_part c.in-Some.last) (sym c.last.ensures ∙ ap (option_map key_part) c.in-Some.is))

pub returns-in-None : goal.returns-in-None
returns-in-None c =
    let s = story_tree c.args.self.now in
    led_by_none s (node_place s c.args.node) c.kept-kept.result c.kept-kept.ensures (sym c.last.ensures ∙ ap (option_map key_part) c.in-None.is)
