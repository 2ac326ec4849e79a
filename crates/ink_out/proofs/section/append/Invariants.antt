use Rattle.std.proofs.Common.{◌≡◌, ◌≤◌, ◌+◌, ◌-◌, ◌++◌, ℕ, length, map, vec_len, vec_capacity}
use Rattle.ink_out.proofs.Common.{Page, piece_mark, Sees, GoesBack, Held, output_back, with_open, Trails, spare, trail_of}
use Rattle.ink_out.proofs.section.append.Given as goal

abbrev pub invariant-loop-piece : goal.invariant-loop-piece
invariant-loop-piece l = record {
  next : (goal.iterator-loop-piece).can_next l.piece-iterator;
  finite : (goal.iterator-loop-piece).is_finite l.piece-iterator;
  marks : l.marks.items ++ map piece_mark l.piece-iterator ≡ l.fn.marks.items ++ map piece_mark l.fn.pieces.items;
  room : vec_len l.marks + length l.piece-iterator ≤ vec_capacity l.marks;
  settled : vec_len l.settled + length l.piece-iterator ≤ vec_capacity l.settled;
  few : length l.piece-iterator ≤ length l.fn.pieces.items;
  spares : length l.piece-iterator ≤ spare l.trail;
  sees : Sees l.fn.marks.items l.fn.settled.items l.fn.state l.enters → Sees l.marks.items l.settled.items l.state l.enters;
  trail : (page : Page) → Trails output_back (length l.fn.pieces.items - length l.piece-iterator) (with_open l.fn.marks.items page) l.fn.trail (with_open l.marks.items page) l.trail;
  back : Sees l.fn.marks.items l.fn.settled.items l.fn.state l.enters → (page : Page) (room : ℕ) → Held room (with_open (l.marks.items ++ map piece_mark l.piece-iterator) page)
      → GoesBack room (trail_of l.fn.trail.undo) (with_open l.fn.marks.items page) → GoesBack room (trail_of l.trail.undo) (with_open l.marks.items page);
}
