use Rattle.std.proofs.Common.{◌∙◌}
use Rattle.ink_parts.proofs.Common.{view-Array, array, item, no_items}
use Rattle.ink_parts.proofs.Arrays.{paired, view-natural}
use Rattle.ink_parts.proofs.counts.write_row.Goals as goal

pub returns : goal.returns
returns c =
    view-Array _ ∙ paired _ _ _ _ _ c.in_ok-pair.ensures.items c.in_ok-push.ensures.items c.in_ok-push-2.ensures.items
    ∙ (λ i. array (item (c.in_ok-write_place.ensures i) (item (view-natural c.from.result c.args.count c.from.ensures i) no_items)))
