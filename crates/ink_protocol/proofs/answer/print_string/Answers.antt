use Rattle.std.proofs.Common.{◌∙◌, ap, sym}
use Rattle.json.specs.Print.{escape}
use Rattle.ink_protocol.proofs.answer.print_string.Goals as goal

pub print_plain-requires : goal.print_plain-requires
print_plain-requires c = ap escape (sym c.as_bytes.ensures.value) ∙ c.if-is_plain.ensures ∙ c.as_bytes.ensures.value
