-- How changes of the text being written are put back.
use Rattle.std.specs.Prelude.{◌≤◌, ℕ, List, [], ◌∷◌, drop, length, reverse, vec_capacity, Option}
use Rattle.ink_model.specs.Run.Configuration.{Page, Section}
use Rattle.ink_model.specs.declared.limits.TheConstants.{MAX_MARKS}
use Rattle.ink_model.specs.declared.mark.Mark.{Mark}
use Rattle.ink_out.specs.Stands.{IsStateOf}
use Rattle.ink_out.specs.Writing.{Writing}
use Rattle.ink_out.specs.declared.undo.OutputPair.{OutputPair}
use Rattle.ink_out.specs.declared.undo.OutputPair.TheVariants.{Wrote, Began, Closed, Numbered, Line, Sections}
use Rattle.ink_trail.specs.Undo.{but_last, spare, stood_at}

-- ---- the marks of the section that is open, or of the line where none is

abbrev pub open_in : List Mark → List Section → List Mark
open_in line [] = line
open_in line (x ∷ rest) = x.marks

abbrev pub open_marks : Page → List Mark
open_marks page = open_in page.line page.sections

abbrev pub with_open_in : List Mark → List Mark → List Section → ℕ → Page
with_open_in ms line [] n = record { line = ms; sections = []; next_enter = n }
with_open_in ms line (x ∷ rest) n = record { line = line; sections = record { kind = x.kind; marks = ms } ∷ rest; next_enter = n }

abbrev pub with_open : List Mark → Page → Page
with_open ms page = with_open_in ms page.line page.sections page.next_enter

-- ---- what is put back

-- the page before a change
abbrev pub output_back : OutputPair → Page → Page
output_back (Wrote s) page = with_open (but_last (open_marks page)) page
output_back Began page = record page { sections = drop 1 page.sections }
output_back (Closed x) page = record page { sections = x ∷ page.sections }
output_back (Numbered n) page = record page { next_enter = n }
output_back (Line ms n) page = record page { line = ms; next_enter = n }
output_back (Sections xs) page = record page { sections = reverse xs.items }

-- the page as it stood at the mark, where one stands
unfoldable pub output_stood : Writing → Option Page
output_stood w = stood_at output_back w.trail w.page

-- how many pairs more fit without memory
unfoldable pub output_spare : Writing → ℕ
output_spare w = spare w.trail

-- ---- that it can be put back

-- the line is within its limit, and the open sections are within the room of their list
abbrev pub Held : ℕ → Page → Type 0
Held room page = (length page.line ≤ MAX_MARKS) × (length page.sections ≤ room)

-- a list comes back with its room
abbrev pub room_of : OutputPair → ℕ → ℕ
room_of (Sections xs) room = vec_capacity xs
room_of e room = room

-- a mark was noted with the state before it
abbrev pub KeepsState : OutputPair → Page → Type 0
KeepsState (Wrote s) page = IsStateOf (open_marks page) s
KeepsState e page = Unit {0}

-- so it is at each moment while the pairs are put back
abbrev pub GoesBack : ℕ → List OutputPair → Page → Type 0
GoesBack room [] page = Held room page
GoesBack room (e ∷ es) page = Held room page × KeepsState e (output_back e page) × GoesBack (room_of e room) es (output_back e page)
