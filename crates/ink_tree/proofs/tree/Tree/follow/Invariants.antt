use Rattle.std.proofs.Common.{◌≡◌, List, Some, length, option_and_then}
use Rattle.ink_tree.proofs.Common.{components, ends_in_index, walked, Part, story_tree, node_place}
use Rattle.ink_tree.proofs.tree.Tree.follow.Given as goal

-- what is left leads on from here as all did, and ends as all do
abbrev pub invariant-loop-text : goal.invariant-loop-text
invariant-loop-text l =
    (option_and_then (walked (story_tree l.self) (node_place (story_tree l.self) l.here)) (components l.rest)
    ≡ option_and_then (walked (story_tree l.self) (node_place (story_tree l.self) l.fn.from)) (components l.fn.components))
    × ((ps : List Part) → components l.fn.components ≡ Some ps → (qs : List Part) × (components l.rest ≡ Some qs) × (ends_in_index ps ≡ ends_in_index qs))

abbrev pub decreases-loop-text : goal.decreases-loop-text
decreases-loop-text l = length l.rest
