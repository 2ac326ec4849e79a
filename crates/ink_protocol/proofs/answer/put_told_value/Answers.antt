use Rattle.std.proofs.Common.{◌∙◌, refl, sym}
use Rattle.ink_model.specs.Protocol.Answer.{Shows}
use Rattle.ink_protocol.proofs.Answering.{answer_from_tokens, made_as}
use Rattle.ink_protocol.proofs.answer.put_told_value.Goals as goal

pub returns : goal.returns
returns c =
    made_as c.end_line.result _ _ _ c.end_line.ensures
    (sym (answer_from_tokens (Shows c.args.value.now) _ _ _ _ (c.writer_behind-out.ensures.before ∙ c.requires) c.writer_behind-out.ensures.tokens c.in_ok-write_shown.ensures refl refl))
