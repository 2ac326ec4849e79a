use Rattle.ink_stack.proofs.Backs.{gone-last}
use Rattle.ink_stack.proofs.undo.has_gone.Goals as goal

pub returns-in-Some-Gone-default : goal.returns-in-Some-Gone-default
returns-in-Some-Gone-default g c =
    let k = c.in-Some-Gone-default in
    λ _. gone-last c.args.pairs.now k.field-0-1.now k.field-0-0.now _ _ k.ensures.cases.0 k.field-0-0-is
