use Rattle.std.proofs.Common.{◌≡◌, take}
use Rattle.std.specs.Str.Parse.{AllDigits, digits_value}
use Rattle.json_tape.proofs.number.few_digits.Given as goal

-- the value is that of the digits before
abbrev pub invariant-loop-at : goal.invariant-loop-at
invariant-loop-at l = record {
  digits : AllDigits 10 (take l.at l.bytes);
  value : l.value ≡ digits_value 10 (take l.at l.bytes);
}
