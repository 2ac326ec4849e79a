use Rattle.std.proofs.Common.{◌∙◌}
use Rattle.ink_parts.proofs.Common.{view-Array, array, item, no_items}
use Rattle.ink_parts.proofs.Arrays.{paired}
use Rattle.ink_parts.proofs.globals.write_global.Goals as goal

pub returns : goal.returns
returns c =
    view-Array _ ∙ paired _ _ _ _ _ c.in_ok-pair.ensures.items c.in_ok-push.ensures.items c.in_ok-push-2.ensures.items
    ∙ (λ i. array (item (c.in_ok-write_text.ensures i) (item (c.in_ok-write.ensures i) no_items)))
