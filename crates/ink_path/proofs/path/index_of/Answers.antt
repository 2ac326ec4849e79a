use Rattle.std.proofs.Common.{ℕ, Ok, Err, inl, inr, arith}
use Rattle.std.proofs.lemmas.Bool.{cases_lt}
use Rattle.std.proofs.lemmas.Str.Parse.{parse_digits}
use Rattle.ink_model.specs.Text.Bytes.{number_from}
use Rattle.ink_path.proofs.Reading.{numerals, small_index, large_index}
use Rattle.ink_path.proofs.path.index_of.Goals as goal

pub returns-in-Ok : goal.returns-in-Ok
returns-in-Ok c =
    let (_, same) = parse_digits numerals {E = ℕ} 32 c.args.digits.now (Ok c.in-Ok.index) c.in-Ok.ensures.value.0 c.requires.digits in
    small_index c.args.digits.now c.in-Ok.index same (omega arith)

pub returns-in_default : goal.returns-in_default
returns-in_default c =
    let (_, same) = parse_digits numerals {E = ℕ} 32 c.args.digits.now (Ok c.in-Ok.index) c.in-Ok.ensures.value.0 c.requires.digits in
    large_index c.args.digits.now (omega arith)

pub returns-in_default-2 : goal.returns-in_default-2
returns-in_default-2 c =
    let no = parse_digits numerals {E = ℕ} 32 c.args.digits.now (Err 0) c.in_default.ensures.value.0 c.requires.digits in
    elim (cases_lt (number_from 0 c.args.digits.now) 2147483648) [
      | inl small ↦ absurd (no (c.requires.filled, omega arith))
      | inr large ↦ large_index c.args.digits.now large
    ]
