use Rattle.std.proofs.Common.{sym, arith}
use Rattle.ink_model.specs.Text.Bytes.{is_blank}
use Rattle.ink_model.proofs.Ends.{blank_ascii, cut_at_start, without_is}
use Rattle.ink_choice.proofs.texts.trim_start.Goals as goal

pub range_from-requires : goal.range_from-requires
range_from-requires c = λ _. cut_at_start is_blank blank_ascii c.args.text.now c.leading-blanks.result c.utf8.text (omega arith)

pub returns : goal.returns
returns c = rw (without_is is_blank c.args.text.now, sym c.leading-blanks.ensures) c.range_from.ensures.value
