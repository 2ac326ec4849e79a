use Rattle.ink_protocol.proofs.Answering.{between}
use Rattle.ink_protocol.proofs.answer.put_between.Goals as goal

pub returns : goal.returns
returns c = between c.append-3.result _ _ _ _ _ _ _ c.in_ok-append.ensures c.in_ok-append-2.ensures c.append-3.ensures
