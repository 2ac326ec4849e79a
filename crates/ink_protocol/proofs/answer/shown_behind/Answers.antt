use Rattle.std.proofs.Common.{◌++◌, ap}
use Rattle.ink_protocol.proofs.Answering.{made_as}
use Rattle.ink_protocol.proofs.Telling.{choice_text, five}
use Rattle.ink_protocol.proofs.answer.shown_behind.Goals as goal

pub returns : goal.returns
returns c =
    let tags = rw c.as_slice.ensures at c.in_ok-print_texts.ensures in
    let text = rw c.as_str.ensures at c.in_ok-print_string.ensures in
    let r = c.append-3.result in
    made_as r _ _ _
    (five r _ _ _ _ _ _ _ _ _ _ _ c.in_ok-append.ensures tags c.in_ok-append-2.ensures text c.append-3.ensures)
    (ap (λ t. c.args.line.now.items ++ t) (choice_text c.args.choice.now))
