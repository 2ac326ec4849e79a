-- Command lines (docs/PROTOCOL.md, "Command lines").
use Rattle.std.specs.Prelude.{ℕ, List, [], ◌∷◌, Bool, true, false, ◌==◌, length, bytes_eq, codes, nat_le, ◌&&◌, ◌||◌, not, is_none, option_and_then, Option, Some, None, if◌then◌else◌}
use Rattle.std.specs.List.{list_all}
use Rattle.std.specs.Fmt.{signed_decimal}
use Rattle.std.specs.Option.{option_or}
use Rattle.std.specs.Str.{is_utf8}
use Rattle.serde_json.specs.Data.{Data}
use Rattle.serde_json.specs.Read.{read}
use Rattle.ink_model.specs.Protocol.ValueJson.{given_of}
use Rattle.ink_model.specs.Text.Bytes.{is_digit, is_filled, number_from, onto, at_space, after}
use Rattle.ink_model.specs.declared.host.Given.{Given}
use Rattle.ink_model.specs.declared.host.Given.TheVariants as given

-- the lines of an input: each ends at a newline, or at the input's end; an empty last line is none
abbrev pub lines_of : List ℕ → List (List ℕ)
lines_of [] = []
lines_of (c ∷ cs) = if c == 10 then [] ∷ lines_of cs else onto c (lines_of cs)

-- ---- commands

-- Set has no value where its JSON is none or of another kind; Load has the value of its JSON, or none where it is no JSON. Choose
-- has the place of a choice among those that are shown, from 0.
pub data Command : Type 0 where
  Continue : Command
  Through : Command
  Set : (name : List ℕ) → (value : Option Given) → Command
  Get : (name : List ℕ) → Command
  Visits : (path : List ℕ) → Command
  Choose : (number : ℕ) → Command
  Jump : (path : List ℕ) → Command
  Save : Command
  Load : (saved : Option Data) → Command
  Restart : Command
  Flow : (name : List ℕ) → Command
  Drop : (name : List ℕ) → Command

abbrev pub plain_command : List ℕ → Option Command
plain_command line = if bytes_eq line (codes "continue") then Some Continue
    else (if bytes_eq line (codes "through") then Some Through
    else (if bytes_eq line (codes "save") then Some Save else (if bytes_eq line (codes "restart") then Some Restart else None)))

-- a name that is not empty and has no space
abbrev pub get_command : List ℕ → Option Command
get_command name = if is_filled name && is_none (at_space name) then Some (Get name) else None

abbrev pub flow_command : List ℕ → Option Command
flow_command name = if is_filled name && is_none (at_space name) then Some (Flow name) else None

abbrev pub drop_command : List ℕ → Option Command
drop_command name = if is_filled name && is_none (at_space name) then Some (Drop name) else None

-- a name that ends at the next space, and the rest, which is not empty
abbrev pub set_command : List ℕ × List ℕ → Option Command
set_command r = if is_filled r.0 && is_filled r.1 then Some (Set r.0 (given_of r.1)) else None

-- a path, which is not empty
abbrev pub visits_command : List ℕ → Option Command
visits_command path = if is_filled path then Some (Visits path) else None

abbrev pub jump_command : List ℕ → Option Command
jump_command path = if is_filled path then Some (Jump path) else None

-- a choice's number, of 1 to 9 digits
abbrev pub choose_command : List ℕ → Option Command
choose_command number =
    if is_filled number && (list_all is_digit number && nat_le (length number) 9) then Some (Choose (number_from 0 number)) else None

-- the JSON value that a text spells, if it spells one
unfoldable pub json_of : List ℕ → Option Data
json_of text = read text

-- JSON, which is not empty
abbrev pub load_command : List ℕ → Option Command
load_command text = if is_filled text then Some (Load (json_of text)) else None

abbrev pub command_word : List ℕ → Option Command
command_word line = option_or (plain_command line) (option_or (option_and_then get_command (after (codes "get ") line))
    (option_or (option_and_then set_command (option_and_then at_space (after (codes "set ") line)))
    (option_or (option_and_then visits_command (after (codes "visits ") line))
    (option_or (option_and_then choose_command (after (codes "choose ") line)) (option_or (option_and_then jump_command (after (codes "jump ") line))
    (option_or (option_and_then load_command (after (codes "load ") line))
    (option_or (option_and_then flow_command (after (codes "flow ") line)) (option_and_then drop_command (after (codes "drop ") line)))))))))

-- the command of a line; a line that is no text, or no command, has none
unfoldable pub command_of : List ℕ → Option Command
command_of line = if is_utf8 line then command_word line else None

-- ---- where memory is asked for

-- a value that is read where it stands: an integer as it is printed, or a truth value
abbrev pub stands_plain : List ℕ → Option Given → Bool
stands_plain text (Some (given.Int z)) = bytes_eq text (signed_decimal z)
stands_plain text (Some (given.Bool b)) = bytes_eq text (codes "true") || bytes_eq text (codes "false")
stands_plain text value = false

-- any other is parsed as JSON, or kept
abbrev pub value_asks : List ℕ → Bool
value_asks text = not (stands_plain text (given_of text))

abbrev pub set_asks : Option (List ℕ × List ℕ) → Bool
set_asks None = false
set_asks (Some r) = is_filled r.0 && (is_filled r.1 && value_asks r.1)

-- Memory is asked for reading a command only where it is to set a value: names, paths, numbers and the JSON of a save stand in the
-- line.
abbrev pub command_asks : List ℕ → Bool
command_asks line = set_asks (option_and_then at_space (after (codes "set ") line))

-- a line that is no text asks for none
abbrev pub line_asks : List ℕ → Bool
line_asks line = is_utf8 line && command_asks line
