-- How text is laid out in a terminal's columns (docs/READER.md, "What is shown").
use Rattle.std.specs.Prelude.{ℕ, ◌+◌, ◌≤◌, List, [], ◌∷◌, ◌++◌, Bool, false, ◌||◌, encode_utf8, ◌==◌, nat_le, nat_lt, codes, length, replicate, if◌then◌else◌}
use Rattle.std.specs.Char.{is_control}
use Rattle.std.specs.Option.{unwrap_or}
use Rattle.unicode_width.specs.Width.{char_width}

-- A paragraph: in how many columns, how wide its margin is, what is laid out of it, in which column that ends, the word that is
-- open behind it, and its columns.
pub record SheetView : Type 0 where
  pub columns : ℕ
  pub margin : ℕ
  pub done : List ℕ
  pub column : ℕ
  pub word : List ℕ
  pub wide : ℕ

-- A word and a line stay narrow: columns and margin have 16 bits, and a character takes three columns at the most.
pub record IsNarrow (wide column : ℕ) : Type 0 where
  pub word : wide ≤ 65538
  pub line : column ≤ 131073

-- a paragraph that begins with a lead as wide as its margin
abbrev pub opened : ℕ → List ℕ → ℕ → SheetView
opened columns lead margin = record { columns = columns; margin = margin; done = lead; column = margin; word = []; wide = 0 }

-- a space, or a control character
abbrev pub is_blank : ℕ → Bool
is_blank c = (c == 32) || is_control c

-- the columns that a character takes
abbrev pub columns_of : ℕ → ℕ
columns_of c = unwrap_or (char_width false c) 0

-- a word is parted from what stands before it: by nothing at a line's beginning, by a blank where it fits, and else by a new line
abbrev pub spaced : SheetView → SheetView
spaced s = if nat_le s.column s.margin then s
    else if nat_le (s.column + 1 + s.wide) s.columns then record s { done = s.done ++ 32 ∷ []; column = s.column + 1 }
    else record s { done = (s.done ++ 10 ∷ []) ++ replicate s.margin 32; column = s.margin }

-- the word follows what is laid out, if one is open
abbrev pub behind : SheetView → SheetView
behind s = record s { done = s.done ++ s.word; column = s.column + s.wide }

abbrev pub joined : SheetView → SheetView
joined s = if length s.word == 0 then s else behind (spaced s)

-- and none is open then
abbrev pub placed : SheetView → SheetView
placed s = record (joined s) { word = []; wide = 0 }

-- a character is added to the word
abbrev pub added : ℕ → SheetView → SheetView
added c s = record s { word = s.word ++ encode_utf8 c; wide = s.wide + columns_of c }

-- the word is placed where so many columns more would make it wider than a line
abbrev pub roomy : ℕ → SheetView → SheetView
roomy n s = if nat_lt s.columns (s.margin + s.wide + n) then placed s else s

-- a character is shown: a blank ends the word, and any other is added to it
abbrev pub with_character : ℕ → SheetView → SheetView
with_character c s = if is_blank c then placed s else added c (roomy (columns_of c) s)

-- characters are shown, one after another
abbrev pub laid : List ℕ → SheetView → SheetView
laid [] s = s
laid (c ∷ cs) s = laid cs (with_character c s)

-- what comes is dimmed, or no longer
abbrev pub dimmed : SheetView → SheetView
dimmed s = let t = placed s in record t { done = t.done ++ (27 ∷ codes "[2m") }

abbrev pub undimmed : SheetView → SheetView
undimmed s = let t = placed s in record t { done = t.done ++ (27 ∷ codes "[0m") }

-- what was shown
abbrev pub sheet_text : SheetView → List ℕ
sheet_text s = (placed s).done
