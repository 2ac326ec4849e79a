-- Marks as they are kept.
use Rattle.std.specs.Prelude.{ℕ, List}
use Rattle.std.specs.Fmt.{signed_decimal}
use Rattle.ink_model.specs.Values.Value.{truth_text}
use Rattle.ink_model.specs.declared.mark.Mark.{Mark}
use Rattle.ink_model.specs.declared.mark.Mark.TheVariants as kinds
use Rattle.ink_out.specs.declared.kept.Form.{Form}
use Rattle.ink_out.specs.declared.kept.Form.TheVariants as forms
use Rattle.ink_out.specs.declared.kept.Words.{Words}
use Rattle.ink_out.specs.declared.kept.Words.TheVariants as words

-- a text itself, an integer in decimal, `true` or `false`
abbrev pub said : Words → List ℕ
said (words.Text t) = t
said (words.Number z) = signed_decimal z
said (words.Truth b) = truth_text b

abbrev pub mark_of : Form → Mark
mark_of (forms.Text w) = kinds.Text (said w)
mark_of (forms.Part p) = kinds.Text p
mark_of (forms.Blank t) = kinds.Blank t
mark_of (forms.BlankPart p) = kinds.Blank p
mark_of forms.Newline = kinds.Newline
mark_of forms.Glue = kinds.Glue
mark_of (forms.Tag t) = kinds.Tag t
mark_of (forms.Enter n) = kinds.Enter n
mark_of (forms.Leave n) = kinds.Leave n
