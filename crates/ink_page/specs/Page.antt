-- The pages of a reading (docs/READER.md, "What is shown").
use Rattle.std.specs.Prelude.{ℕ, List, [], ◌∷◌, ◌++◌, codes, chars, length, if◌then◌else◌}
use Rattle.std.specs.Fmt.{decimal}
use Rattle.ink_model.specs.declared.passage.Shown.{Shown}
use Rattle.ink_page.specs.Sheet.{SheetView, dimmed, sheet_text, laid, opened, undimmed}
use Rattle.ink_page.specs.declared.page.Look.{Look}

-- a tag is shown behind a mark
abbrev pub tag_laid : List ℕ → SheetView → SheetView
tag_laid t s = laid (chars t) (laid (chars (codes " # ")) s)

-- tags are shown, one after another
abbrev pub tags_laid : List (List ℕ) → SheetView → SheetView
tags_laid [] s = s
tags_laid (t ∷ ts) s = tags_laid ts (tag_laid t s)

-- tags behind what was shown, dimmed where that is asked
abbrev pub tagged : Look → List (List ℕ) → SheetView → SheetView
tagged look [] s = s
tagged look (t ∷ ts) s = if look.dims then undimmed (tags_laid (t ∷ ts) (dimmed s)) else tags_laid (t ∷ ts) s

-- a line of a story, with its tags behind it where they are asked for
abbrev pub line_page : Look → List ℕ → List (List ℕ) → List ℕ
line_page look text tags = sheet_text (if look.tags then tagged look tags (laid (chars text) (opened look.columns [] 0)) else laid (chars text) (opened look.columns [] 0))

-- a choice's number, as it stands before it
abbrev pub lead_of : ℕ → List ℕ
lead_of number = decimal number ++ codes ". "

-- a choice by its number, with its tags behind it, asked for or not
abbrev pub choice_page : Look → ℕ → Shown → List ℕ
choice_page look number c = sheet_text (tagged look c.tags (laid (chars c.text) (opened look.columns (lead_of number) (length (lead_of number)))))
