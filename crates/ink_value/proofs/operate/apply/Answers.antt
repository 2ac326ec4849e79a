use Rattle.std.proofs.Common.{◌≡◌, ◌∙◌, ap, arith, length, rules, sym}
use Rattle.ink_model.specs.Values.Joining.{makes_text}
use Rattle.ink_value.proofs.Operands.{gives_two, two_values, without_memory}
use Rattle.ink_value.proofs.operate.apply.Goals as goal

pub returns-in-len2-clause-result : goal.returns-in-len2-clause-result
returns-in-len2-clause-result c =
    let vs = c.args.values.now in
    let two : length vs ≡ 2 = search (rules, arith) in
    gives_two c.args.operator vs c.left-item.result c.right-item.result c.of_two.result (two_values vs _ _ _ _ two c.left-item.is c.right-item.is) c.of_two.ensures.result

pub returns-in-len2-clause-memory : goal.returns-in-len2-clause-memory
returns-in-len2-clause-memory c none =
    let vs = c.args.values.now in
    let two : length vs ≡ 2 = search (rules, arith) in
    c.of_two.ensures.memory (ap (makes_text c.args.operator) (sym (two_values vs c.left-item.result c.right-item.result _ _ two c.left-item.is c.right-item.is)) ∙ none)

pub returns-in-Int-clause-memory : goal.returns-in-Int-clause-memory
returns-in-Int-clause-memory c none short = search (rules, without_memory)
