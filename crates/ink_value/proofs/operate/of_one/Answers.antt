use Rattle.std.proofs.Common.{rules, ◌≡◌, Some, sym, ap, ◌∙◌}
use Rattle.std.specs.Int.{w32}
use Rattle.std.specs.Int.RustNames.{FitsSigned}
use Rattle.std.proofs.lemmas.Int.{to_z-of_z}
use Rattle.ink_model.specs.Values.Operator as operators
use Rattle.ink_value.specs.Standing.{number_of, number_text}
use Rattle.ink_value.proofs.Operands.{operand_number}
use Rattle.ink_value.proofs.operate.of_one.Goals as goal

pub returns-in-Some : goal.returns-in-Some
returns-in-Some c =
    let v = c.args.value.now in
    let n = c.in-Some.number in
    let number : number_of v ≡ Some n = cc in
    let fits : FitsSigned w32 n = search rules in
    c.of_number.ensures (number_text v) ∙ ap (λ z. operators.of_one c.args.operator (operators.number z (number_text v))) (to_z-of_z w32 n fits)
    ∙ ap (operators.of_one c.args.operator) (sym (operand_number v n number))
