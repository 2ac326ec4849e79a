use Rattle.std.proofs.Common.{◌∙◌, ap, sym}
use Rattle.json.specs.Print.{escape}
use Rattle.ink_protocol.proofs.answer.close_line.Goals as goal

pub close_plain-requires : goal.close_plain-requires
close_plain-requires c = ap escape (sym c.as_bytes.ensures.value) ∙ c.if-is_plain.ensures ∙ c.as_bytes.ensures.value
