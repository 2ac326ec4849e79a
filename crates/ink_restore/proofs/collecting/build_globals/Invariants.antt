use Rattle.std.proofs.Common.{drop}
use Rattle.ink_tree.specs.Nodes.{story_tree}
use Rattle.ink_restore.proofs.Limits.{Collects}
use Rattle.ink_restore.proofs.collecting.build_globals.Given as goal

abbrev pub invariant-loop-row : goal.invariant-loop-row
invariant-loop-row l = Collects (story_tree l.tree) l.rows l.made.rows (drop l.row-index l.rows)
