use Rattle.std.proofs.Common.{◌≡◌, ◌++◌, map}
use Rattle.ink_out.proofs.Common.{let_through, piece_mark}
use Rattle.ink_out.proofs.output.let_through.Given as goal

abbrev pub invariant-loop-piece : goal.invariant-loop-piece
invariant-loop-piece l =
    map piece_mark l.kept.items ++ let_through l.fresh (map piece_mark l.piece-iterator) ≡ let_through l.fn.fresh (map piece_mark l.fn.pieces.items)
