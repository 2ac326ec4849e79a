use Rattle.std.proofs.Common.{◌≡◌, drop, map}
use Rattle.ink_out.proofs.Common.{list_any, is_text, piece_mark}
use Rattle.ink_out.proofs.output.has_text.Given as goal

abbrev pub invariant-loop-piece : goal.invariant-loop-piece
invariant-loop-piece l = list_any is_text (map piece_mark (drop l.piece-index l.pieces)) ≡ list_any is_text (map piece_mark l.pieces)
