use Rattle.ink_stack.proofs.Backs.{mode-last}
use Rattle.ink_stack.proofs.undo.has_mode.Goals as goal

pub returns-in-Some-Evaluating-default : goal.returns-in-Some-Evaluating-default
returns-in-Some-Evaluating-default g c =
    let k = c.in-Some-Gone-default in
    let m = c.in-Some-Evaluating-default in
    λ _. mode-last c.args.pairs.now k.before.now m.field-0-1.now k.field-0-0.now m.field-0-0.now _ _ _ k.ensures.cases.0 k.field-0-0-is m.ensures.cases.0 m.field-0-0-is
