use Rattle.std.proofs.Common.{◌≡◌, map, take}
use Rattle.ink_parts.proofs.Common.{view, story_tree, row_in}
use Rattle.ink_parts.proofs.flows.write_rows.Given as goal

abbrev pub invariant-loop-index : goal.invariant-loop-index
invariant-loop-index l = map view l.made.items ≡ map (row_in (story_tree l.tree) l.current) (take l.index l.aside)
