-- What a line answers where a story asks (docs/READER.md, "Questions").
use Rattle.std.specs.Prelude.{◌≡◌, ◌≢◌, ℕ, List, FitsSigned, codes, true, false}
use Rattle.std.specs.Int.{w32}
use Rattle.std.specs.Str.{trim}
use Rattle.std.specs.Str.Parse.{IsNumeral, signed_digits_value, without_leading_sign}
use Rattle.ink_model.specs.declared.host.Given.{Given}
use Rattle.ink_model.specs.declared.host.Given.TheVariants as given

-- a text spells a number of 32 bits: a sign, if one stands there, and digits
abbrev pub IsNumber : List ℕ → Type 0
IsNumber text = IsNumeral 10 (without_leading_sign text) × FitsSigned w32 (signed_digits_value 10 text)

-- a text that answers itself: it is no number, and neither true nor false
abbrev pub IsText : List ℕ → Type 0
IsText text = (text ≢ codes "true") × (text ≢ codes "false") × (IsNumber text → ⊥)

-- what a text answers: a number, true or false, or else itself
abbrev pub IsGiven : List ℕ → Given → Type 0
IsGiven text (given.Int n) = IsNumber text × (n ≡ signed_digits_value 10 text)
IsGiven text (given.Bool true) = text ≡ codes "true"
IsGiven text (given.Bool false) = text ≡ codes "false"
IsGiven text (given.Text t) = (t ≡ text) × IsText text
IsGiven text given.Void = ⊥

-- what a line answers; blanks around it say nothing
abbrev pub Answers : List ℕ → Given → Type 0
Answers line = IsGiven (trim line)
