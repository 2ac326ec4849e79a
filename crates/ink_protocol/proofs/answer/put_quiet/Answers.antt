use Rattle.ink_protocol.proofs.Answering.{made_as, passage_from}
use Rattle.ink_protocol.proofs.answer.put_quiet.Goals as goal

pub returns : goal.returns
returns c =
    made_as c.close_text.result _ _ _ c.close_text.ensures
    (passage_from c.args.passage.now c.as_slice.result.now c.as_str.result.now c.args.middle.now _ _ c.as_slice.ensures c.as_str.ensures c.in_ok-put_choices.ensures c.in_ok-append.ensures)
