use Rattle.std.proofs.Common.{drop}
use Rattle.ink_restore.proofs.Common.{rows_of, story_tree}
use Rattle.ink_restore.proofs.Gathers.{Gathers}
use Rattle.ink_restore.proofs.flowing.gather.Given as goal

abbrev pub invariant-loop-named : goal.invariant-loop-named
invariant-loop-named l = Gathers (story_tree l.tree) l.current l.flows (rows_of l.made.rows.entries) l.made.current (drop l.named-index l.flows)
