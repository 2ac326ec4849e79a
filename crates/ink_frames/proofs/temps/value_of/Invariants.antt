use Rattle.ink_frames.proofs.Searching.{Lacks}
use Rattle.ink_frames.proofs.temps.value_of.Given as goal

abbrev pub invariant-loop-row : goal.invariant-loop-row
invariant-loop-row l = Lacks l.name l.row-index l.rows
