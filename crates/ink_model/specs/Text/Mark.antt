-- Which marks a written text leaves, and the tags among marks (docs/TEXT.md).
use Rattle.std.specs.Prelude.{ℕ, List, [], ◌∷◌, ◌++◌, not, if◌then◌else◌}
use Rattle.std.specs.List.{list_any}
use Rattle.ink_model.specs.Text.Bytes.{is_blank, is_white, has_newline, leading, without, trailing, trimmed}
use Rattle.ink_model.specs.declared.mark.Mark.{Mark}
use Rattle.ink_model.specs.declared.mark.Mark.TheVariants.{Text, Blank, Newline, Tag}

-- ---- cutting

-- a piece without newlines at its ends: nothing, blanks alone, or a text
abbrev pub piece : List ℕ → List Mark
piece [] = []
piece (c ∷ cs) = if list_any (λ x. not (is_blank x)) (c ∷ cs) then Text (c ∷ cs) ∷ [] else Blank (c ∷ cs) ∷ []

-- where the white end holds a newline: what stands before the first one there, one newline, and the blanks after the last
abbrev pub cut_end : List ℕ → List Mark
cut_end cs = if has_newline (trailing is_white cs)
    then piece (trimmed is_white cs ++ leading is_blank (trailing is_white cs)) ++ Newline ∷ piece (trailing is_blank cs)
    else piece cs

-- where the white beginning holds a newline: the blanks before the first one, one newline, and what follows the last
unfoldable pub cut : List ℕ → List Mark
cut cs = if has_newline (leading is_white cs)
    then piece (leading is_blank cs) ++ Newline ∷ cut_end (trailing is_blank (leading is_white cs) ++ without is_white cs)
    else cut_end cs

-- ---- tags

-- the tags, in order
abbrev pub tags : List Mark → List (List ℕ)
tags [] = []
tags (Tag t ∷ ms) = t ∷ tags ms
tags (m ∷ ms) = tags ms
