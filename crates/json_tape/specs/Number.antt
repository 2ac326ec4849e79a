-- The number that a number's text writes.
use Rattle.serde_json.specs.Data.{Num, unsigned, negative, float}
use Rattle.json_tape.specs.declared.number.Number.{Number}
use Rattle.json_tape.specs.declared.number.Number.TheVariants.{Unsigned, Negative, Float}

abbrev pub num : Number → Num
num (Unsigned n) = unsigned n
num (Negative z) = negative z
num (Float x) = float x
