use Rattle.std.proofs.Common.{◌++◌, ap, codes, sym}
use Rattle.ink_protocol.proofs.Answering.{made_as}
use Rattle.ink_protocol.proofs.answer.end_line.Goals as goal

pub returns : goal.returns
returns c = made_as c.append.result _ _ _ c.append.ensures (sym (ap (λ t. t ++ codes "\n") c.into_inner.ensures.items))
