use Rattle.std.proofs.Common.{◌∙◌, ◌++◌, [], ap, codes}
use Rattle.ink_protocol.proofs.Answering.{made_as}
use Rattle.ink_protocol.proofs.Telling.{acts_answer, behind}
use Rattle.ink_protocol.proofs.answer.put_acts.Goals as goal

pub returns : goal.returns
returns c =
    let r = c.append-2.result in
    let front = c.in_ok-append.ensures ∙ ap (λ l. l ++ codes "{\"events\":[") c.requires in
    made_as r _ _ _ (behind r [] _ _ _ _ front (behind r _ _ _ _ _ c.in_ok-print_events.ensures c.append-2.ensures)) (acts_answer c.args.events.now)
