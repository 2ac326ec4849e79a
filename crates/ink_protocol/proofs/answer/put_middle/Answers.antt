use Rattle.ink_protocol.proofs.Telling.{five}
use Rattle.ink_protocol.proofs.answer.put_middle.Goals as goal

pub returns : goal.returns
returns c =
    let events = rw c.as_slice.ensures at c.in_ok-print_events.ensures in
    let flags = rw c.flags_text.ensures at c.in_ok-append-2.ensures in
    let tags = rw c.as_slice-2.ensures at c.in_ok-print_texts.ensures in
    five c.append-3.result _ _ _ _ _ _ _ _ _ _ _ c.in_ok-append.ensures events flags tags c.append-3.ensures
