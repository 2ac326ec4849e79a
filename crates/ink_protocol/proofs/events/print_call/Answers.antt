use Rattle.std.proofs.Common.{◌++◌, ap}
use Rattle.ink_protocol.proofs.Answering.{made_as}
use Rattle.ink_protocol.proofs.Telling.{call_text, six}
use Rattle.ink_protocol.proofs.events.print_call.Goals as goal

pub returns : goal.returns
returns c =
    let r = c.print_stamp.result in
    made_as r _ _ _
    (six r _ _ _ _ _ _ _ _ _ _ _ c.in_ok-append.ensures c.in_ok-print_all.ensures c.in_ok-append-2.ensures c.in_ok-print_string.ensures _ _ c.in_ok-print_outcome.ensures c.print_stamp.ensures)
    (ap (λ t. c.args.line.now.items ++ t) (call_text c.args.name.now c.args.arguments.now c.args.gave.now c.args.stamp))
