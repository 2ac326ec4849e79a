-- Small sections and what they show, each proved by computation (docs/TEXT.md, "What is shown").
use Rattle.std.specs.Prelude.{◌≡◌, [], ◌∷◌, None, Some, true, false, refl, codes}
use Rattle.ink_model.specs.Text.Shown.{shown_text, is_shown, open_newline, more_from}
use Rattle.ink_model.specs.declared.mark.Mark.{Mark}
use Rattle.ink_model.specs.declared.mark.Mark.TheVariants.{Text, Blank, Newline, Glue, Tag, Enter, Leave}

abbrev a : Mark
a = Text (codes "a")

abbrev b : Mark
b = Text (codes "b")

abbrev blank : Mark
blank = Blank (codes " ")

abbrev tag : Mark
tag = Tag (codes "t")

-- ---- newlines

a_line : shown_text (a ∷ Newline ∷ b ∷ []) ≡ codes "a\nb"
a_line = refl

nothing_before : shown_text (Newline ∷ tag ∷ Newline ∷ a ∷ []) ≡ codes "a"
nothing_before = refl

two_newlines : shown_text (a ∷ Newline ∷ Newline ∷ b ∷ []) ≡ codes "a\nb"
two_newlines = refl

a_blank_between_newlines : shown_text (a ∷ Newline ∷ blank ∷ Newline ∷ b ∷ []) ≡ codes "a\n b"
a_blank_between_newlines = refl

a_blank_first : shown_text (blank ∷ Newline ∷ a ∷ []) ≡ codes " \na"
a_blank_first = refl

-- ---- glue

glue_after : shown_text (a ∷ Newline ∷ Glue ∷ b ∷ []) ≡ codes "ab"
glue_after = refl

glue_before : shown_text (a ∷ Glue ∷ Newline ∷ b ∷ []) ≡ codes "ab"
glue_before = refl

glue_before_a_text : shown_text (a ∷ Glue ∷ b ∷ Newline ∷ a ∷ []) ≡ codes "ab\na"
glue_before_a_text = refl

blanks_at_glue : shown_text (a ∷ blank ∷ Newline ∷ blank ∷ Glue ∷ blank ∷ b ∷ []) ≡ codes "a  b"
blanks_at_glue = refl

-- a tag behind the newline keeps a later glue away from it
a_tag_before_glue : shown_text (a ∷ Newline ∷ tag ∷ Glue ∷ b ∷ []) ≡ codes "a\nb"
a_tag_before_glue = refl

-- and one behind the glue does not
a_tag_behind_glue : shown_text (a ∷ Glue ∷ tag ∷ Newline ∷ b ∷ []) ≡ codes "ab"
a_tag_behind_glue = refl

-- the glue hides the blank, so nothing is shown before the second newline
a_blank_that_glue_hides : shown_text (Newline ∷ blank ∷ Newline ∷ tag ∷ Glue ∷ a ∷ []) ≡ codes "a"
a_blank_that_glue_hides = refl

-- ---- functions

a_function : shown_text (a ∷ Enter 0 ∷ Newline ∷ b ∷ Newline ∷ Leave (Some 0) ∷ a ∷ []) ≡ codes "a\nba"
a_function = refl

a_function_of_blanks : shown_text (a ∷ Enter 0 ∷ blank ∷ Newline ∷ blank ∷ Leave (Some 0) ∷ b ∷ []) ≡ codes "ab"
a_function_of_blanks = refl

a_newline_before_a_function : shown_text (a ∷ Newline ∷ Enter 0 ∷ Leave (Some 0) ∷ b ∷ []) ≡ codes "a\nb"
a_newline_before_a_function = refl

a_leave_without_enter : shown_text (a ∷ Newline ∷ Enter 1 ∷ Leave (Some 0) ∷ b ∷ []) ≡ codes "ab"
a_leave_without_enter = refl

a_leave_of_no_number : shown_text (a ∷ Enter 0 ∷ Newline ∷ Leave None ∷ b ∷ []) ≡ codes "ab"
a_leave_of_no_number = refl

two_leaves_of_one_number : shown_text (a ∷ Enter 0 ∷ b ∷ Leave (Some 0) ∷ Newline ∷ blank ∷ Leave (Some 0) ∷ a ∷ []) ≡ codes "aba"
two_leaves_of_one_number = refl

-- ---- queries

an_open_newline : open_newline (a ∷ Newline ∷ blank ∷ []) ≡ Some 1
an_open_newline = refl

a_tag_closes_it : open_newline (a ∷ Newline ∷ tag ∷ []) ≡ None
a_tag_closes_it = refl

and_it_is_shown : is_shown (a ∷ Newline ∷ tag ∷ []) 1 ≡ true
and_it_is_shown = refl

a_tag_is_more : more_from (a ∷ Newline ∷ tag ∷ []) 2 ≡ true
a_tag_is_more = refl

a_blank_is_no_more : more_from (a ∷ Newline ∷ blank ∷ []) 2 ≡ false
a_blank_is_no_more = refl
