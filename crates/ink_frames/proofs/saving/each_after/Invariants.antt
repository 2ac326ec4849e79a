use Rattle.std.proofs.Common.{◌≡◌, drop, option_map, None}
use Rattle.ink_frames.specs.Saving.{rise_after}
use Rattle.ink_frames.proofs.saving.each_after.Given as goal

abbrev pub invariant-loop-row : goal.invariant-loop-row
invariant-loop-row l = rise_after (option_map (λ n. n.now) l.last) (drop l.row-index l.rows) ≡ rise_after None l.rows
