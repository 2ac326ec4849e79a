use Rattle.serde_json.specs.Data.{string}
use Rattle.ink_protocol.proofs.Answering.{text_behind}
use Rattle.ink_protocol.proofs.answer.string_behind.Goals as goal

pub returns : goal.returns
returns c = text_behind (string c.args.text.now) _ _ _ _ c.writer_behind-out.ensures.before c.writer_behind-out.ensures.tokens c.in_ok-put_string.ensures c.into_inner.ensures.items
