-- The lines of a page (docs/READER.md, "What is shown").
use Rattle.std.specs.Prelude.{◌≡◌, ◌⊎◌, ◌+◌, ◌≤◌, ℕ, List, [], ◌∷◌, ◌++◌, Bool, true, not, max, chars, codes, IsUtf8, ⊤}
use Rattle.std.specs.Char.{is_control}
use Rattle.std.specs.List.{list_all}
use Rattle.ink_page.specs.Sheet.{columns_of}

-- a character, or the sign that what comes is dimmed, or no longer
pub data Mark : Type 0 where
  Letter : ℕ → Mark
  Dim : Mark
  Undim : Mark

-- the characters of a line
abbrev pub written : List Mark → List ℕ
written [] = []
written (Letter c ∷ ms) = c ∷ written ms
written (Dim ∷ ms) = (27 ∷ codes "[2m") ++ written ms
written (Undim ∷ ms) = (27 ∷ codes "[0m") ++ written ms

-- the characters of lines, with a newline behind each
abbrev pub lines_broken : List (List Mark) → List ℕ
lines_broken [] = []
lines_broken (l ∷ ls) = written l ++ 10 ∷ lines_broken ls

-- how many columns a line takes
abbrev pub width : List Mark → ℕ
width [] = 0
width (Letter c ∷ ms) = columns_of c + width ms
width (Dim ∷ ms) = width ms
width (Undim ∷ ms) = width ms

-- and the widest character in it
abbrev pub widest : List Mark → ℕ
widest [] = 0
widest (Letter c ∷ ms) = max (columns_of c) (widest ms)
widest (Dim ∷ ms) = widest ms
widest (Undim ∷ ms) = widest ms

-- no control character; and a sign only where tags are dimmed
abbrev pub is_plain : Bool → Mark → Bool
is_plain dims (Letter c) = not (is_control c)
is_plain dims m = dims

-- so many columns fit: into the columns, or behind the margin as a single character of the line
abbrev pub FitsColumns : ℕ → ℕ → List Mark → ℕ → Type 0
FitsColumns columns margin line n = (n ≤ columns) ⊎ (n ≤ margin + widest line)

-- a line without control characters, which is no wider than the columns unless a single character is
pub record IsLine (dims : Bool) (columns margin : ℕ) (line : List Mark) : Type 0 where
  pub plain : list_all (is_plain dims) line ≡ true
  pub narrow : FitsColumns columns margin line (width line)

abbrev pub AreLines : Bool → ℕ → ℕ → List (List Mark) → Type 0
AreLines dims columns margin [] = ⊤
AreLines dims columns margin (l ∷ ls) = IsLine dims columns margin l × AreLines dims columns margin ls

-- The characters of a page are those of such lines, with a newline between one and the next.
pub record IsPage (dims : Bool) (columns margin : ℕ) (page : List ℕ) : Type 0 where
  pub lines : List (List Mark)
  pub last : List Mark
  pub whole : chars page ≡ lines_broken lines ++ written last
  pub all : AreLines dims columns margin lines
  pub also_last : IsLine dims columns margin last

-- these are texts
abbrev pub AreTexts : List (List ℕ) → Type 0
AreTexts [] = ⊤
AreTexts (t ∷ ts) = IsUtf8 t × AreTexts ts
