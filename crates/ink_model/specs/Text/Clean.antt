-- Cleaned text (docs/TEXT.md, "Cleaning").
use Rattle.std.specs.Prelude.{ℕ, List, map, filter}
use Rattle.ink_model.specs.Text.Bytes.{is_blank, is_newline, joined, pieces, is_filled}

-- a line's words, one space between any two
abbrev pub clean_line : List ℕ → List ℕ
clean_line line = joined 32 (filter is_filled (pieces is_blank line))

-- each line cleaned: blanks at both ends go, and runs of blanks become one space
unfoldable pub clean : List ℕ → List ℕ
clean text = joined 10 (map clean_line (pieces is_newline text))
