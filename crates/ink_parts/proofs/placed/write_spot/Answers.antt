use Rattle.std.proofs.Common.{◌∙◌}
use Rattle.ink_parts.proofs.Common.{view-Array, part_data}
use Rattle.ink_parts.proofs.Arrays.{listed}
use Rattle.ink_parts.proofs.placed.write_spot.Goals as goal

pub returns : goal.returns
returns c = view-Array c.in_ok-parts.parts ∙ listed part_data _ _ c.in_ok-parts.ensures
