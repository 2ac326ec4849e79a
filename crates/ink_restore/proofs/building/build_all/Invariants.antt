use Rattle.std.proofs.Common.{drop}
use Rattle.ink_tree.specs.Nodes.{story_tree}
use Rattle.ink_restore.proofs.Making.{Making}
use Rattle.ink_restore.proofs.building.build_all.Given as goal

abbrev pub invariant-loop-item : goal.invariant-loop-item
invariant-loop-item g l = let s = story_tree l.tree in Making (g.T.Built.in_story s) (g.T.Built.fits s) l.items l.made.items (drop l.item-index l.items)
