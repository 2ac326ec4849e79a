use Rattle.ink_frames.proofs.Rows.{Passed}
use Rattle.ink_frames.proofs.temps.find_one_by_one.Given as goal

abbrev pub invariant-loop-index : goal.invariant-loop-index
invariant-loop-index l = Passed l.name l.index l.rows
