use Rattle.std.proofs.Common.{◌∙◌, ap, map}
use Rattle.ink_parts.proofs.Common.{view, part_data, node_place, story_tree}
use Rattle.ink_model.specs.declared.place.Part.TheVariants.{Index}
use Rattle.ink_parts.proofs.Arrays.{one_more, view-natural}
use Rattle.ink_parts.proofs.placed.write_under.Goals as goal

pub returns : goal.returns
returns c =
    ap (map view) c.in_ok-push.ensures.items
    ∙ one_more part_data (node_place (story_tree c.args.tree.now) c.args.holder) (Index c.args.index) c.in_ok-made.made.items _ c.in_ok-made.ensures (view-natural c.from.result c.args.index c.from.ensures)
