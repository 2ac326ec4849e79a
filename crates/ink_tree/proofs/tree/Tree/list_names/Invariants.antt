use Rattle.ink_tree.proofs.Common.{AreNamed, story_tree}
use Rattle.ink_tree.proofs.tree.Tree.list_names.Given as goal

abbrev pub invariant-loop-number : goal.invariant-loop-number
invariant-loop-number l = AreNamed (story_tree l.self) l.lists.items
