use Rattle.std.proofs.Common.{take}
use Rattle.ink_parts.proofs.Common.{global_data, Added}
use Rattle.ink_parts.proofs.Texts.{all_tokens}
use Rattle.ink_parts.proofs.globals.put_rows.Given as goal

abbrev pub invariant-loop-index : goal.invariant-loop-index
invariant-loop-index l = Added l.fn.out l.out (all_tokens global_data (take l.index l.globals.rows))
