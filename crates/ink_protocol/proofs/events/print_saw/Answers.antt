use Rattle.std.proofs.Common.{◌++◌, ap}
use Rattle.ink_protocol.proofs.Answering.{made_as}
use Rattle.ink_protocol.proofs.Telling.{five, saw_text}
use Rattle.ink_protocol.proofs.events.print_saw.Goals as goal

pub returns : goal.returns
returns c =
    let r = c.append-2.result in
    made_as r _ _ _
    (five r _ _ _ _ _ _ _ _ _ _ _ c.in_ok-append.ensures c.in_ok-print_string.ensures c.in_ok-print_stamp.ensures c.in_ok-print_value.ensures c.append-2.ensures)
    (ap (λ t. c.args.line.now.items ++ t) (saw_text c.args.name.now c.args.stamp c.args.value.now))
