use Rattle.std.proofs.Common.{◌≡◌, map, take}
use Rattle.ink_parts.proofs.Common.{view, story_tree}
use Rattle.ink_parts.proofs.written.write_all.Given as goal

abbrev pub invariant-loop-item : goal.invariant-loop-item
invariant-loop-item g l = map view l.made.items ≡ map (g.T.Written.spelling (story_tree l.tree)) (take l.item-index l.items)
