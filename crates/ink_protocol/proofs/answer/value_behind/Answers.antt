use Rattle.ink_model.specs.Protocol.ValueJson.{value_data}
use Rattle.ink_protocol.proofs.Answering.{text_behind}
use Rattle.ink_protocol.proofs.answer.value_behind.Goals as goal

pub returns : goal.returns
returns c = text_behind (value_data c.args.value.now) _ _ _ _ c.writer_behind-out.ensures.before c.writer_behind-out.ensures.tokens c.in_ok-write_value.ensures c.into_inner.ensures.items
