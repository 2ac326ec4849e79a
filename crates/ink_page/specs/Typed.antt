-- What a typed line asks for, by cases on what was typed (docs/READER.md, "What is typed").
use Rattle.std.specs.Prelude.{ℕ, List, codes, length, nat_le, bytes_eq, ◌||◌, not, if◌then◌else◌, Option, Some, None}
use Rattle.std.specs.List.{list_all}
use Rattle.std.specs.Str.{trim}
use Rattle.ink_model.specs.Text.Bytes.{after, is_digit, is_filled, number_from}
use Rattle.ink_page.specs.declared.typed.Typed.{Typed}
use Rattle.ink_page.specs.declared.typed.Typed.TheVariants as as_typed

pub data Asked : Type 0 where
  Choice : ℕ → Asked
  Save : Asked
  Load : Asked
  Back : Asked
  Restart : Asked
  Variable : List ℕ → Asked
  Help : Asked
  Quit : Asked
  Unclear : Asked

-- a choice's number, of 1 to 9 digits
abbrev pub choice_in : List ℕ → Asked
choice_in text = if not (is_filled text) || (not (nat_le (length text) 9) || not (list_all is_digit text)) then Unclear else Choice (number_from 0 text)

-- a variable's name, around which blanks say nothing
abbrev pub variable_in : List ℕ → Asked
variable_in text = Variable (trim text)

-- the name behind `v `, or else a number
abbrev pub asked_behind : Option (List ℕ) → List ℕ → Asked
asked_behind (Some name) text = variable_in name
asked_behind None text = choice_in text

abbrev pub asked_in : List ℕ → Asked
asked_in text = if bytes_eq text (codes "s") then Save
    else if bytes_eq text (codes "l") then Load
    else if bytes_eq text (codes "b") then Back
    else if bytes_eq text (codes "r") then Restart
    else if bytes_eq text (codes "?") then Help
    else if bytes_eq text (codes "q") then Quit
    else asked_behind (after (codes "v ") text) text

-- what a line asks for; blanks around it say nothing
abbrev pub typed : List ℕ → Asked
typed line = asked_in (trim line)

-- what the code's word for it says
abbrev pub asked_by : Typed → Asked
asked_by (as_typed.Choice number) = Choice number
asked_by as_typed.Save = Save
asked_by as_typed.Load = Load
asked_by as_typed.Back = Back
asked_by as_typed.Restart = Restart
asked_by (as_typed.Variable name) = Variable name.now
asked_by as_typed.Help = Help
asked_by as_typed.Quit = Quit
asked_by as_typed.Unclear = Unclear
