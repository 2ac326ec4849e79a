use Rattle.std.proofs.Common.{◌∙◌, ap, sym}
use Rattle.ink_protocol.specs.Answers.{passage_line}
use Rattle.ink_protocol.proofs.Answering.{quiet_line}
use Rattle.ink_protocol.proofs.answer.middle_of.Goals as goal

pub returns-then-has_none-2 : goal.returns-then-has_none-2
returns-then-has_none-2 c =
    let p = c.args.passage.now in
    quiet_line p (sym c.as_slice.ensures ∙ c.has_none.ensures c.if-has_none.true) (sym c.as_slice-then-has_none.ensures ∙ c.has_none-then-has_none.ensures c.if-has_none-2.true)
    ∙ ap (λ m. passage_line p m) (sym c.quiet_middle.ensures)
