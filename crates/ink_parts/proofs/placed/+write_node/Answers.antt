use Rattle.std.proofs.Common.{◌∙◌, ap, map, sym}
use Rattle.ink_parts.proofs.Common.{view, part_data, node_place, story_tree}
use Rattle.ink_parts.proofs.Arrays.{one_more}
use Rattle.ink_parts.proofs.placed.+write_node.Goals as goal

pub returns-in_ok-push-in-Some : goal.returns-in_ok-push-in-Some
returns-in_ok-push-in-Some t c =
    ap (map view) c.in_ok-push-in-Some.ensures.items
    ∙ one_more part_data (node_place (story_tree c.args.tree.now) c.in-Some.holder) _ c.in_ok-made-in-Some.made.items c.in_ok-write_key-in-Some.field-0 c.in_ok-made-in-Some.ensures
    c.in_ok-write_key-in-Some.ensures
    ∙ ap (map part_data) (sym c.in-Some.ensures.1)
