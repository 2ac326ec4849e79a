use Rattle.std.proofs.Common.{◌≡◌, ℕ, List}
use Rattle.ink_tree.proofs.Common.{listed_index, at, first_of, named_at, story_tree, node_place}
use Rattle.ink_tree.proofs.Firsts.{named_from}
use Rattle.ink_tree.proofs.tree.Tree.names_in.Given as goal

-- the first of a name is among those seen, or else the first from here on
abbrev pub invariant-loop-index : goal.invariant-loop-index
invariant-loop-index l =
    let o = at (story_tree l.self) (node_place (story_tree l.self) l.holder) in
    (name : List ℕ) → first_of (named_at name l.names) (named_from name l.index o) ≡ listed_index name o
