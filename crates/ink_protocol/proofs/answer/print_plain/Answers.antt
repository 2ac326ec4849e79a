use Rattle.std.proofs.Common.{◌++◌, ap, List, ℕ}
use Rattle.ink_protocol.proofs.Answering.{made_as, plain_string}
use Rattle.ink_protocol.proofs.answer.print_plain.Goals as goal

pub returns : goal.returns
returns c = made_as c.put_between.result _ _ _ c.put_between.ensures (ap (λ (xs : List ℕ). c.args.line.now.items ++ xs) (plain_string c.args.text.now c.requires))
