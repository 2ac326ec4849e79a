use Rattle.std.proofs.Common.{arith}
use Rattle.json.proofs.Printed.Plain.{plain_from_lanes}
use Rattle.ink_protocol.proofs.plain.are_plain_from.Goals as goal

pub returns : goal.returns
returns c = plain_from_lanes c.args.bytes.now c.args.at 16 c.requires (omega arith) c.type_inv.bytes
