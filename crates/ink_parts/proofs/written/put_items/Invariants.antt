use Rattle.std.proofs.Common.{take}
use Rattle.ink_parts.proofs.Common.{Added, story_tree}
use Rattle.ink_parts.proofs.Texts.{all_tokens}
use Rattle.ink_parts.proofs.written.put_items.Given as goal

abbrev pub invariant-loop-item : goal.invariant-loop-item
invariant-loop-item g l = Added l.fn.out l.out (all_tokens (g.T.Written.spelling (story_tree l.tree)) (take l.item-index l.items))
