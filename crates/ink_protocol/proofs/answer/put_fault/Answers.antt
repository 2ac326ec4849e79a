use Rattle.std.proofs.Common.{◌∙◌, ◌++◌, ap, codes, false, map, sym}
use Rattle.serde_json.specs.Data.{string}
use Rattle.serde_json.specs.Written.{compact_text, items_text}
use Rattle.ink_model.specs.Host.Events.{event_data, items_of}
use Rattle.ink_model.specs.Protocol.Answer.{fault_name}
use Rattle.ink_protocol.proofs.Answering.{made_as}
use Rattle.ink_protocol.proofs.Telling.{fault_answer, five}
use Rattle.ink_protocol.proofs.answer.put_fault.Goals as goal

pub returns : goal.returns
returns c =
    let r = c.append-3.result in
    let f = c.args.fault in
    let es = c.args.events.now in
    let name = rw c.name.ensures at c.in_ok-print_string.ensures in
    made_as r _ _ _
    (five r _ _ _ _ _ _ _ _ _ _ _ c.in_ok-append.ensures c.in_ok-print_events.ensures c.in_ok-append-2.ensures name c.append-3.ensures)
    (fault_answer f es
    ∙ ap (λ l. l ++ (codes "{\"events\":[" ++ (items_text false (items_of (map event_data es)) ++ (codes ",\"fault\":" ++ (compact_text (string (fault_name f)) ++ codes "}\n"))))) (sym c.requires))
