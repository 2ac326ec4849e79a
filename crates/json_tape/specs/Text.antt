-- What a text is, taken into a tape.
use Rattle.std.specs.Prelude.{◌≡◌, ℕ, ◌^◌, ◌≤◌, List, length, None}
use Rattle.serde_json.specs.Read.{read}
use Rattle.json_tape.specs.Spelled.{held}
use Rattle.json_tape.specs.declared.tape.Parsed.{Parsed}
use Rattle.json_tape.specs.declared.tape.Parsed.TheVariants.{Tape, NotJson, TooLong}

-- what was parsed of a text: the tape holds what the text is read as
abbrev pub IsParsed : Parsed → List ℕ → Type 0
IsParsed (Tape tape) text = held tape ≡ read text
IsParsed NotJson text = read text ≡ None
IsParsed TooLong text = 2 ^ 32 ≤ length text
