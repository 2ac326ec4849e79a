-- The text being written, as contracts see it.
use Rattle.std.specs.Prelude.{ℕ, List, [], Bool, true, false, drop, length, reverse, Result, Ok, Err}
use Rattle.ink_model.specs.Run.Configuration.{Page, Section}
use Rattle.ink_model.specs.Memory.Refusals.{Leaves}
use Rattle.ink_model.specs.Text.Mark.{cut}
use Rattle.ink_model.specs.Text.Output.{let_through, writes_marks}
use Rattle.ink_model.specs.declared.fault.Fault.{Fault}
use Rattle.ink_model.specs.declared.mark.Mark.{Mark}
use Rattle.ink_model.specs.declared.value.Value.{Value}
use Rattle.ink_model.specs.declared.value.Value.TheVariants.{Void, Text}
use Rattle.ink_out.specs.declared.undo.OutputPair.{OutputPair}
use Rattle.ink_trail.specs.Undo.{TrailView}

-- the page, and the trail of what it was
pub record Writing : Type 0 where
  pub page : Page
  pub trail : TrailView OutputPair

-- how many marks are written of a value, by its printed text
abbrev pub marks_of : Bool → Result (List ℕ) Fault → ℕ
marks_of fresh (Ok t) = length (let_through fresh (cut t))
marks_of fresh (Err f) = 0

-- a value that prints nothing: void, and a text without bytes
abbrev pub prints_nothing : Value → Bool
prints_nothing Void = true
prints_nothing (Text []) = true
prints_nothing v = false

-- without the section that is open
abbrev pub closed : Page → Page
closed page = record page { sections = drop 1 page.sections }

-- ---- by parts: the line, and the sections open on it, the nearest last

abbrev pub page_of : List Mark → List Section → ℕ → Page
page_of line sections n = record { line = line; sections = reverse sections; next_enter = n }

-- the marks are written at the end of the open section, whatever the next number is
abbrev pub Notes : {A : Type 0} → List Mark → List Mark → List Section → List Mark → List Section → Result A Fault → Type 0
Notes ms line sections new_line new_sections result =
    (n : ℕ) → Leaves (writes_marks ms (page_of line sections n)) (page_of line sections n) (page_of new_line new_sections n) result
