use Rattle.std.proofs.Common.{◌≡◌, map, take}
use Rattle.ink_spelling.specs.Readings.{part_as}
use Rattle.ink_tree.specs.Nodes.{IsNode, node_place, story_tree}
use Rattle.ink_restore.proofs.counting.node_at.Given as goal

-- the parts so far lead here
abbrev pub invariant-loop-part : goal.invariant-loop-part
invariant-loop-part l = record {
  here : node_place (story_tree l.tree) l.here ≡ take l.part-index (map part_as l.all);
  node : IsNode (story_tree l.tree) l.here;
}
