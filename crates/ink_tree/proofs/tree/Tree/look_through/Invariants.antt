use Rattle.std.proofs.Common.{◌≡◌}
use Rattle.ink_tree.proofs.Common.{listed_index, at, story_tree, node_place}
use Rattle.ink_tree.proofs.Firsts.{named_from}
use Rattle.ink_tree.proofs.tree.Tree.look_through.Given as goal

-- the first one from here on is the first of all
abbrev pub invariant-loop-index : goal.invariant-loop-index
invariant-loop-index l =
    let o = at (story_tree l.self) (node_place (story_tree l.self) l.here) in named_from l.name l.index o ≡ listed_index l.name o
