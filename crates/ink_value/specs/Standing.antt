-- What values stand for.
use Rattle.std.specs.Prelude.{ℕ, ℤ, List, [], Option, Some, None}
use Rattle.std.specs.Fmt.{signed_decimal}
use Rattle.ink_model.specs.Values.Operator.{truth_number}
use Rattle.ink_model.specs.Values.Value.{truth_text}
use Rattle.ink_model.specs.declared.value.Value.{Value}
use Rattle.ink_model.specs.declared.value.Value.TheVariants.{Int, Bool as Truth}

-- the number that a value stands for, of an integer and a boolean
abbrev pub number_of : Value → Option ℤ
number_of (Int z) = Some z
number_of (Truth b) = Some (truth_number b)
number_of v = None

-- the text of a number
abbrev pub number_text : Value → List ℕ
number_text (Int z) = signed_decimal z
number_text (Truth b) = truth_text b
number_text v = []
