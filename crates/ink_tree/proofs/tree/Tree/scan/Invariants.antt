use Rattle.std.proofs.Common.{◌≡◌, ◌<◌, ◌++◌, ◌∷◌, [], ℕ}
use Rattle.ink_tree.proofs.Common.{key_part, story_tree, node_place}
use Rattle.ink_tree.proofs.tree.Tree.scan.Given as goal

-- none of those before stands there
abbrev pub invariant-loop-number : goal.invariant-loop-number
invariant-loop-number l =
    (i : ℕ) → i < l.number → node_place (story_tree l.self) (record { number = i }) ≡ node_place (story_tree l.self) l.fn.holder ++ key_part l.fn.key ∷ [] → ⊥
