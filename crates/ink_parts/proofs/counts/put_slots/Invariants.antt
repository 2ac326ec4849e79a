use Rattle.std.proofs.Common.{take}
use Rattle.ink_parts.proofs.Common.{row_data, rows_at, Added, story_tree, rows_from}
use Rattle.ink_parts.proofs.Texts.{all_tokens}
use Rattle.ink_parts.proofs.counts.put_slots.Given as goal

abbrev pub invariant-loop-number : goal.invariant-loop-number
invariant-loop-number l = Added l.fn.out l.out (all_tokens row_data (rows_at (story_tree l.tree) (rows_from 0 (take l.number l.slots))))
