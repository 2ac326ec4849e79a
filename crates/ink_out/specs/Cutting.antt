-- The bytes at the ends of a text, and its pieces.
use Rattle.std.specs.Prelude.{ℕ, Bool, true, false}
use Rattle.ink_model.specs.Text.Bytes.{is_blank, is_white}
use Rattle.ink_model.specs.declared.mark.Mark.{Mark}
use Rattle.ink_model.specs.declared.mark.Mark.TheVariants as kinds
use Rattle.ink_out.specs.declared.cutting.Piece.{Piece}
use Rattle.ink_out.specs.declared.cutting.Piece.TheVariants as pieces
use Rattle.ink_out.specs.declared.cutting.Space.{Space}
use Rattle.ink_out.specs.declared.cutting.Space.TheVariants.{Blank, White}

abbrev pub is_space : Space → ℕ → Bool
is_space Blank = is_blank
is_space White = is_white

abbrev pub piece_mark : Piece → Mark
piece_mark (pieces.Text t) = kinds.Text t
piece_mark (pieces.Part p) = kinds.Text p
piece_mark (pieces.Blank t) = kinds.Blank t
piece_mark (pieces.BlankPart p) = kinds.Blank p
piece_mark pieces.Newline = kinds.Newline

abbrev pub is_newline_mark : Mark → Bool
is_newline_mark kinds.Newline = true
is_newline_mark m = false
