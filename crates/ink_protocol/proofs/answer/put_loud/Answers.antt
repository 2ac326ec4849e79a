use Rattle.std.proofs.Common.{◌∙◌}
use Rattle.ink_protocol.proofs.Answering.{made_as, passage_from}
use Rattle.ink_protocol.proofs.Telling.{loud_line}
use Rattle.ink_protocol.specs.Answers.{loud_middle}
use Rattle.ink_protocol.proofs.answer.put_loud.Goals as goal

pub returns : goal.returns
returns c =
    let p = c.args.passage.now in
    made_as c.close_text.result _ _ _ c.close_text.ensures
    (loud_line p ∙ passage_from p c.as_slice.result.now c.as_str-text.result.now (loud_middle p) _ _ c.as_slice.ensures c.as_str-text.ensures c.in_ok-put_choices.ensures c.in_ok-put_middle.ensures)
