use Rattle.std.proofs.Common.{◌≡◌, ◌∙◌, Ok, ap, rules, sym}
use Rattle.ink_model.specs.Values.Operator.{of_numbers}
use Rattle.ink_value.proofs.stack.EvalStack.apply_top.Goals as goal

pub returns-in-Ok-clause-stack : goal.returns-in-Ok-clause-stack
returns-in-Ok-clause-stack c =
    let made : of_numbers c.args.operator c.in-Some.left c.in-Some.right ≡ Ok c.in-Ok.value = search rules in
    (c.in-Some.ensures.numbers c.args.operator c.in-Ok.value made ∙ ap Ok (sym c.leave_for_numbers.ensures.items), tt)
