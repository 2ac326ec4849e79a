use Rattle.std.proofs.Common.{◌≡◌, length}
use Rattle.ink_tree.proofs.Common.{content_place, first_content_at, at, story_tree, node_place}
use Rattle.ink_tree.proofs.tree.Tree.first_in.Given as goal

-- the way from here leads to where the whole way does
abbrev pub invariant-loop-first : goal.invariant-loop-first
invariant-loop-first l = let s = story_tree l.self in content_place s (node_place s l.here) ≡ content_place s (node_place s l.fn.node)

abbrev pub decreases-loop-first : goal.decreases-loop-first
decreases-loop-first l = let s = story_tree l.self in length (first_content_at (at s (node_place s l.here)))
