-- The text being written: what each call writes into it, and when it may not (docs/TEXT.md, "Sections").
use Rattle.std.specs.Prelude.{ℕ, suc, ◌+◌, ◌^◌, List, [], ◌∷◌, ◌++◌, length, Bool, true, false, ◌&&◌, nat_lt, if◌then◌else◌, Option, Some, None, is_some, Result, Ok, Err}
use Rattle.std.specs.List.{list_any}
use Rattle.ink_model.specs.Text.Bytes.{fits_text}
use Rattle.ink_model.specs.Text.Clean.{clean}
use Rattle.ink_model.specs.Text.Mark.{cut}
use Rattle.ink_model.specs.Text.Page.{Page, Section, SectionKind, string_section, tag_section}
use Rattle.ink_model.specs.Text.Shown.{shown_text, open_newline}
use Rattle.ink_model.specs.Values.Value.{printed}
use Rattle.ink_model.specs.declared.fault.Fault.{Fault}
use Rattle.ink_model.specs.declared.fault.Fault.TheVariants.{BadMode, TooDeep}
use Rattle.ink_model.specs.declared.limits.TheConstants.{MAX_MARKS, MAX_SECTIONS}
use Rattle.ink_model.specs.declared.mark.Mark.{Mark}
use Rattle.ink_model.specs.declared.mark.Mark.TheVariants.{Text, Newline, Glue, Tag, Enter, Leave}
use Rattle.ink_model.specs.declared.value.Value.{Value}

-- ---- marks in the open section

abbrev pub is_line : List Section → Bool
is_line [] = true
is_line (x ∷ rest) = false

-- at the end of the open section, which is the nearest, or the line where none is open
abbrev pub noted_in : List Mark → List Mark → List Section → ℕ → Page
noted_in ms line [] n = record { line = line ++ ms; sections = []; next_enter = n }
noted_in ms line (x ∷ rest) n = record { line = line; sections = record { kind = x.kind; marks = x.marks ++ ms } ∷ rest; next_enter = n }

abbrev pub noted : List Mark → Page → Page
noted ms page = noted_in ms page.line page.sections page.next_enter

-- the marks of the line alone are limited
abbrev pub is_crowded : List Mark → Page → Bool
is_crowded ms page = is_line page.sections && nat_lt MAX_MARKS (length page.line + length ms)

-- the marks that a call writes, where there is room for them all
abbrev pub writes_marks : List Mark → Page → Result Page Fault
writes_marks ms page = if is_crowded ms page then Err TooDeep else Ok (noted ms page)

-- While the top frame is a function fresh in the open section no Newline is written; a Text ends that.
abbrev pub let_through : Bool → List Mark → List Mark
let_through fresh [] = []
let_through fresh (Text t ∷ ms) = Text t ∷ let_through false ms
let_through true (Newline ∷ ms) = let_through true ms
let_through false (Newline ∷ ms) = Newline ∷ let_through false ms
let_through fresh (m ∷ ms) = m ∷ let_through fresh ms

abbrev pub is_text : Mark → Bool
is_text (Text t) = true
is_text m = false

-- a text that is written, cut into marks
abbrev pub writes_text : Bool → List ℕ → Page → Result Page Fault
writes_text fresh t page = writes_marks (let_through fresh (cut t)) page

-- a value that is written, by its printed text
abbrev pub writes_printed : Bool → Result (List ℕ) Fault → Page → Result Page Fault
writes_printed fresh (Ok t) page = writes_text fresh t page
writes_printed fresh (Err f) page = Err f

abbrev pub writes_value : Bool → Value → Page → Result Page Fault
writes_value fresh v page = writes_printed fresh (printed v) page

-- a Text is among what a value writes
abbrev pub prints_text : Result (List ℕ) Fault → Bool
prints_text (Ok t) = list_any is_text (cut t)
prints_text (Err f) = false

abbrev pub writes_newline : Bool → Page → Result Page Fault
writes_newline fresh page = writes_marks (let_through fresh (Newline ∷ [])) page

abbrev pub writes_glue : Page → Result Page Fault
writes_glue page = writes_marks (Glue ∷ []) page

-- ---- functions

-- a function begins: it has the next number, of which there are fewer than 2 ^ 64
abbrev pub with_next : Page → Page
with_next page = record page { next_enter = suc page.next_enter }

abbrev pub begins_function : Page → Result Page Fault
begins_function page = if nat_lt (suc page.next_enter) (2 ^ 64) then writes_marks (Enter page.next_enter ∷ []) (with_next page) else Err TooDeep

abbrev pub ends_function : Option ℕ → Page → Result Page Fault
ends_function number page = writes_marks (Leave number ∷ []) page

-- ---- strings and tags

abbrev pub opens : SectionKind → Page → Result Page Fault
opens kind page = if nat_lt (length page.sections) MAX_SECTIONS
    then Ok (record page { sections = record { kind = kind; marks = [] } ∷ page.sections }) else Err TooDeep

-- a text within its limit
abbrev pub kept_text : {A : Type 0} → List ℕ → A → Result A Fault
kept_text t a = if fits_text t then Ok a else Err TooDeep

-- the open string's text as it is shown, uncleaned, and the page without it
abbrev pub closes_string_of : Page → List Section → Result (List ℕ × Page) Fault
closes_string_of page [] = Err BadMode
closes_string_of page (x ∷ rest) = closes_string_kind x.kind (shown_text x.marks) (record page { sections = rest })
  where
    closes_string_kind : SectionKind → List ℕ → Page → Result (List ℕ × Page) Fault
    closes_string_kind string_section t p = kept_text t (t, p)
    closes_string_kind tag_section t p = Err BadMode

abbrev pub closes_string : Page → Result (List ℕ × Page) Fault
closes_string page = closes_string_of page page.sections

abbrev pub is_string : Section → Bool
is_string x = is_string_kind x.kind
  where
    is_string_kind : SectionKind → Bool
    is_string_kind string_section = true
    is_string_kind tag_section = false

-- a closed tag is handed out where a string is open, and else is a mark
abbrev pub tagged : List ℕ → Page → Result (Option (List ℕ) × Page) Fault
tagged t page = if list_any is_string page.sections then Ok (Some t, page) else marked (writes_marks (Tag t ∷ []) page)
  where
    marked : Result Page Fault → Result (Option (List ℕ) × Page) Fault
    marked (Ok p) = Ok (None, p)
    marked (Err f) = Err f

abbrev pub closes_tag_of : Page → List Section → Result (Option (List ℕ) × Page) Fault
closes_tag_of page [] = Err BadMode
closes_tag_of page (x ∷ rest) = closes_tag_kind x.kind (clean (shown_text x.marks)) (record page { sections = rest })
  where
    closes_tag_kind : SectionKind → List ℕ → Page → Result (Option (List ℕ) × Page) Fault
    closes_tag_kind string_section t p = Err BadMode
    closes_tag_kind tag_section t p = if fits_text t then tagged t p else Err TooDeep

-- the open tag's cleaned text
abbrev pub closes_tag : Page → Result (Option (List ℕ) × Page) Fault
closes_tag page = closes_tag_of page page.sections

-- a tag that is given whole, by its cleaned text
abbrev pub writes_tag : List ℕ → Page → Result (Option (List ℕ) × Page) Fault
writes_tag t page = if fits_text (clean t) then tagged (clean t) page else Err TooDeep

-- ---- what is asked of a page

-- The line alone is open, and a Newline is shown in it that no Text or Tag follows.
abbrev pub ends_line : Page → Bool
ends_line page = is_line page.sections && is_some (open_newline page.line)

abbrev pub empty_page : Page
empty_page = record { line = []; sections = []; next_enter = 0 }
