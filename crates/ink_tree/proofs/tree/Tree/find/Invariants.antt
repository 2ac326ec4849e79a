use Rattle.std.proofs.Common.{◌≡◌, take}
use Rattle.ink_tree.proofs.Common.{story_tree, node_place, IsNode}
use Rattle.ink_tree.proofs.tree.Tree.find.Given as goal

-- the parts so far lead here
abbrev pub invariant-loop-part : goal.invariant-loop-part
invariant-loop-part l = record {
  here : node_place (story_tree l.self) l.here ≡ take l.part-index l.parts;
  node : IsNode (story_tree l.self) l.here;
}
