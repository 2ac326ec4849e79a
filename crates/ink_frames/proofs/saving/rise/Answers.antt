use Rattle.std.proofs.Common.{◌∙◌}
use Rattle.ink_frames.proofs.Rising.{rise_one_by_one}
use Rattle.ink_frames.proofs.saving.rise.Goals as goal

pub returns : goal.returns
returns c = c.each_after.ensures ∙ rise_one_by_one c.args.rows.now
