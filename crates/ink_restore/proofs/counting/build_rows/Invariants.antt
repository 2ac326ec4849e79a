use Rattle.std.proofs.Common.{drop}
use Rattle.ink_tree.specs.Nodes.{story_tree}
use Rattle.ink_restore.specs.Counted.{flag_of, least_of}
use Rattle.ink_restore.proofs.Numbering.{Numbers}
use Rattle.ink_restore.proofs.counting.build_rows.Given as goal

abbrev pub invariant-loop-row : goal.invariant-loop-row
invariant-loop-row l = Numbers (story_tree l.tree) (flag_of l.what) (least_of l.what) l.rows l.slots.items (drop l.row-index l.rows)
