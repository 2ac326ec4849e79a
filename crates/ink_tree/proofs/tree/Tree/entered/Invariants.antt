use Rattle.std.proofs.Common.{◌≡◌, ◌++◌, length, map, option_map}
use Rattle.ink_tree.proofs.Common.{entered_places, story_tree, node_place, place_of, AreNodes, still_entered}
use Rattle.ink_tree.proofs.tree.Tree.entered.Given as goal

-- what was entered so far, and what the rest still enters, is what all enters
abbrev pub invariant-loop-next : goal.invariant-loop-next
invariant-loop-next l =
    let s = story_tree l.self in
    let o = option_map (place_of s) l.previous in
    record {
      all : map (node_place s) l.entered.items ++ still_entered s o l.rest ≡ entered_places s o (place_of s l.fn.at);
      nodes : AreNodes s l.entered.items;
    }

abbrev pub decreases-loop-next : goal.decreases-loop-next
decreases-loop-next l =
    let s = story_tree l.self in
    length (still_entered s (option_map (place_of s) l.previous) l.rest)
