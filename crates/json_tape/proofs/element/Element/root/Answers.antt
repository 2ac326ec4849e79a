use Rattle.std.proofs.Common.{arith}
use Rattle.json_tape.proofs.Elements.{has_tokens}
use Rattle.json_tape.proofs.element.Element.root.Goals as goal

pub invariant_of-result : goal.invariant_of-result
invariant_of-result c = (has_tokens c.args.tape.now c.len.ensures.value, omega arith)
