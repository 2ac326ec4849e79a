use Rattle.ink_protocol.proofs.Answering.{made_as}
use Rattle.ink_protocol.proofs.answer.passage_text.Goals as goal

pub returns-in-Some : goal.returns-in-Some
returns-in-Some c = made_as c.put_quiet.result _ _ _ c.put_quiet.ensures c.in-Some.ensures
