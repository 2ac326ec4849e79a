use Rattle.std.proofs.Common.{◌∙◌}
use Rattle.ink_parts.proofs.Common.{view-Array, global_data}
use Rattle.ink_parts.proofs.Arrays.{listed}
use Rattle.ink_parts.proofs.globals.write_globals.Goals as goal

pub returns : goal.returns
returns c = view-Array c.in_ok-made.made ∙ listed global_data _ _ c.in_ok-made.ensures
