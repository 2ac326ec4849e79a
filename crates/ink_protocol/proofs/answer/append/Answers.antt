use Rattle.std.proofs.Common.{◌++◌, ap, sym}
use Rattle.ink_protocol.proofs.Answering.{made_as, on_ok}
use Rattle.ink_protocol.proofs.answer.append.Goals as goal

pub returns : goal.returns
returns c =
    let before = c.args.line.now.items in
    made_as c.extend_from_slice.result _ _ _ (on_ok c.extend_from_slice.result _ _ before c.extend_from_slice.ensures.items) (ap (λ t. before ++ t) (sym c.as_bytes.ensures.value))
