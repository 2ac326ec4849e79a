-- Which marks are shown, by the marks that stand before and after them (docs/TEXT.md, "What is shown").
use Rattle.std.specs.Prelude.{ℕ, ◌==◌, List, [], ◌∷◌, ◌++◌, length, drop, reverse, Option, None, Some, Bool, true, false, not, ◌||◌, ◌&&◌, if◌then◌else◌}
use Rattle.std.specs.List.{list_any}
use Rattle.ink_model.specs.Text.Bytes.{is_blank}
use Rattle.ink_model.specs.declared.mark.Mark.{Mark}
use Rattle.ink_model.specs.declared.mark.Mark.TheVariants.{Text, Blank, Newline, Glue, Tag, Enter, Leave}

-- Marks before are listed nearest first, marks after in order.

-- ---- glue

-- A Glue comes before any Text. Of marks before, the nearest first, it glues what stands behind them; of marks after, what stands
-- before them.
abbrev pub glued : List Mark → Bool
glued [] = false
glued (Text t ∷ ms) = false
glued (Glue ∷ ms) = true
glued (m ∷ ms) = glued ms

-- a Newline stands before, with no Text between
abbrev pub newline_before : List Mark → Bool
newline_before [] = false
newline_before (Text t ∷ before) = false
newline_before (Newline ∷ before) = true
newline_before (m ∷ before) = newline_before before

-- a Glue follows, with no Text or Tag between
abbrev pub glues : List Mark → Bool
glues [] = false
glues (Text t ∷ after) = false
glues (Tag t ∷ after) = false
glues (Glue ∷ after) = true
glues (m ∷ after) = glues after

-- ---- the end of a function's text

abbrev pub has_enter : ℕ → List Mark → Bool
has_enter n [] = false
has_enter n (Enter k ∷ ms) = n == k || has_enter n ms
has_enter n (m ∷ ms) = has_enter n ms

-- a Leave reaches back past these marks: its Enter is not among them
abbrev pub passes : Option ℕ → List Mark → Bool
passes None between = true
passes (Some n) between = not (has_enter n between)

-- a Leave follows, with no Text before it, that reaches back past all marks between
abbrev pub covered : List Mark → List Mark → Bool
covered between [] = false
covered between (Text t ∷ after) = false
covered between (Leave n ∷ after) = passes n between || covered (Leave n ∷ between) after
covered between (m ∷ after) = covered (m ∷ between) after

-- ---- blanks

-- a Blank is hidden by a function's end, and between a Newline and a Glue
abbrev pub blank_shown : List Mark → List Mark → Bool
blank_shown before after = not (covered [] after || (newline_before before && glued after))

-- some Text or Blank before is shown
abbrev pub shown_before : List Mark → List Mark → Bool
shown_before [] after = false
shown_before (Text t ∷ before) after = true
shown_before (Blank t ∷ before) after = blank_shown before after || shown_before before (Blank t ∷ after)
shown_before (m ∷ before) after = shown_before before (m ∷ after)

-- some Text or Blank is shown
abbrev pub shows_text : List Mark → Bool
shows_text ms = shown_before (reverse ms) []

-- ---- newlines

-- neither glue nor a function's end hides a Newline that stands here
abbrev pub unhidden_newline : List Mark → List Mark → Bool
unhidden_newline before after = not (glued before || (glues after || covered [] after))

-- The last shown Text or Newline before is a Newline. One that only an earlier shown Newline hides has that one before it.
abbrev pub newline_last : List Mark → List Mark → Bool
newline_last [] after = false
newline_last (Text t ∷ before) after = false
newline_last (Newline ∷ before) after = (unhidden_newline before after && shown_before before (Newline ∷ after)) || newline_last before (Newline ∷ after)
newline_last (m ∷ before) after = newline_last before (m ∷ after)

abbrev pub newline_shown : List Mark → List Mark → Bool
newline_shown before after = unhidden_newline before after && (shown_before before (Newline ∷ after) && not (newline_last before (Newline ∷ after)))

-- ---- more than blanks

-- a Text stands among these
abbrev pub has_text : List Mark → Bool
has_text [] = false
has_text (Text t ∷ ms) = true
has_text (m ∷ ms) = has_text ms

-- a Blank that holds something else, which no text is cut into
abbrev pub is_filled_blank : Mark → Bool
is_filled_blank (Blank t) = list_any (λ c. not (is_blank c)) t
is_filled_blank m = false

-- a Text, a Newline or such a Blank is shown, and not blanks alone
abbrev pub shows_more : List Mark → Bool
shows_more ms = shows_text ms && (has_text (reverse ms) || (newline_last (reverse ms) [] || list_any is_filled_blank ms))

-- ---- the text

-- what one mark shows
abbrev pub written : List Mark → Mark → List Mark → List ℕ
written before (Text t) after = t
written before (Blank t) after = if blank_shown before after then t else []
written before Newline after = if newline_shown before after then 10 ∷ [] else []
written before m after = []

-- what the marks before show
abbrev pub text_before : List Mark → List Mark → List ℕ
text_before [] after = []
text_before (m ∷ before) after = text_before before (m ∷ after) ++ written before m after

-- the text that marks show, before it is cleaned
abbrev pub shown_text : List Mark → List ℕ
shown_text ms = text_before (reverse ms) []

-- ---- shown newlines by their indexes

-- the indexes of the shown Newlines before, the nearest first
abbrev pub newlines_before : List Mark → List Mark → List ℕ
newlines_before [] after = []
newlines_before (Newline ∷ before) after =
    if newline_shown before after then length before ∷ newlines_before before (Newline ∷ after) else newlines_before before (Newline ∷ after)
newlines_before (m ∷ before) after = newlines_before before (m ∷ after)

abbrev pub is_among : ℕ → List ℕ → Bool
is_among i [] = false
is_among i (k ∷ ks) = i == k || is_among i ks

-- a shown Newline stands at an index
abbrev pub is_shown : List Mark → ℕ → Bool
is_shown ms i = is_among i (newlines_before (reverse ms) [])

-- the nearest shown Newline before, with no Text or Tag between
abbrev pub open_before : List Mark → List Mark → Option ℕ
open_before [] after = None
open_before (Text t ∷ before) after = None
open_before (Tag t ∷ before) after = None
open_before (Newline ∷ before) after = if newline_shown before after then Some (length before) else open_before before (Newline ∷ after)
open_before (m ∷ before) after = open_before before (m ∷ after)

-- the index of the shown Newline that no Text or Tag follows
abbrev pub open_newline : List Mark → Option ℕ
open_newline ms = open_before (reverse ms) []

-- a Text or Tag stands among these
abbrev pub has_more : List Mark → Bool
has_more [] = false
has_more (Text t ∷ ms) = true
has_more (Tag t ∷ ms) = true
has_more (m ∷ ms) = has_more ms

-- a Text or Tag stands at an index or behind it
abbrev pub more_from : List Mark → ℕ → Bool
more_from ms i = has_more (drop i ms)
