use Rattle.json.proofs.Printed.Plain.{escape_on_plain}
use Rattle.ink_protocol.proofs.plain.is_plain.Goals as goal

pub returns-then-bytes-lt16 : goal.returns-then-bytes-lt16
returns-then-bytes-lt16 c = escape_on_plain c.are_few_plain.result c.args.bytes.now c.are_few_plain.ensures

pub returns-else-bytes-lt16 : goal.returns-else-bytes-lt16
returns-else-bytes-lt16 c = escape_on_plain c.are_many_plain.result c.args.bytes.now c.are_many_plain.ensures
