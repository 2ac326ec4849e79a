use Rattle.std.proofs.Common.{sym, ◌-◌, length, arith}
use Rattle.std.proofs.Math.Nat.{sub-zero}
use Rattle.std.proofs.lemmas.List.Sums.{suffix_len-le-length}
use Rattle.ink_model.specs.Text.Bytes.{is_blank}
use Rattle.ink_model.proofs.Ends.{blank_ascii, cut_at_end, trimmed_is}
use Rattle.ink_choice.proofs.texts.trim_end.Goals as goal

pub overflow_sub-end : goal.overflow_sub-end
overflow_sub-end c = omega (arith, suffix_len-le-length is_blank c.args.text.now)

pub range-requires-clause-end_boundary : goal.range-requires-clause-end_boundary
range-requires-clause-end_boundary c = cut_at_end is_blank blank_ascii c.args.text.now (length c.args.text.now - c.trailing.result) (omega arith) (omega arith)

pub returns : goal.returns
returns c = rw (trimmed_is is_blank c.args.text.now, sym c.trailing.ensures) (rw sub-zero at c.range.ensures.value)
