use Rattle.std.proofs.Common.{length, option_map}
use Rattle.ink_effects.proofs.visits.+enter_all.Given as goal
use Rattle.ink_tree.specs.Nodes.{place_of, story_tree}
use Rattle.ink_tree.specs.Walks.{still_entered}

abbrev pub decreases-enter_all : goal.decreases-enter_all
decreases-enter_all l =
    let s = story_tree l.tree.now in
    length (still_entered s (option_map (place_of s) l.previous) l.rest)
