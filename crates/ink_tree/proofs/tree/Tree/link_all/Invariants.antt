use Rattle.std.proofs.Common.{◌≡◌, length}
use Rattle.ink_tree.proofs.Common.{AreLinked, story_tree}
use Rattle.ink_tree.proofs.tree.Tree.link_all.Given as goal

-- so many are linked
abbrev pub invariant-loop-number : goal.invariant-loop-number
invariant-loop-number l = record {
  all : AreLinked (story_tree l.self) l.links.items;
  many : length l.links.items ≡ l.number;
}
