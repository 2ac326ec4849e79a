use Rattle.std.proofs.Common.{take}
use Rattle.ink_parts.proofs.Common.{Added, story_tree, row_in}
use Rattle.ink_parts.proofs.Texts.{all_tokens}
use Rattle.ink_parts.proofs.flows.put_rows.Given as goal

abbrev pub invariant-loop-index : goal.invariant-loop-index
invariant-loop-index l = Added l.fn.out l.out (all_tokens (row_in (story_tree l.tree) l.current) (take l.index l.aside))
