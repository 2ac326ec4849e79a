use Rattle.std.proofs.Common.{◌≡◌, length, option_map}
use Rattle.ink_tree.proofs.Common.{story_tree, node_place, place_of, still_entered}
use Rattle.ink_tree.proofs.tree.Tree.next_entered.Given as goal

-- what was passed over is not entered
abbrev pub invariant-loop-here : goal.invariant-loop-here
invariant-loop-here l =
    let s = story_tree l.self in
    let o = option_map (place_of s) l.previous in
    still_entered s o l.below ≡ still_entered s o l.fn.rest

abbrev pub decreases-loop-here : goal.decreases-loop-here
decreases-loop-here l = length (node_place (story_tree l.self) l.below.node)
