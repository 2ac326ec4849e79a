use Rattle.std.proofs.Common.{◌≡◌, ◌++◌, ◌∷◌, [], drop}
use Rattle.ink_tree.proofs.Common.{walked, story_tree, node_place}
use Rattle.ink_tree.proofs.tree.Tree.walk.Given as goal

-- the components that are left lead on from here as they all do
abbrev pub invariant-loop-component : goal.invariant-loop-component
invariant-loop-component l =
    walked (story_tree l.self) (node_place (story_tree l.self) l.here) (drop l.component-index l.others ++ l.last ∷ [])
    ≡ walked (story_tree l.self) (node_place (story_tree l.self) l.fn.from) l.fn.components
