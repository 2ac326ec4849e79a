use Rattle.std.proofs.Common.{map}
use Rattle.std.proofs.lemmas.Result.{on_ok_weaker}
use Rattle.std.proofs.lemmas.Str.{IsCharBoundary-start}
use Rattle.ink_out.specs.Cutting.{piece_mark}
use Rattle.ink_out.proofs.Parts.{no_start_cut, start_cut}
use Rattle.ink_out.proofs.cutting.push_cut.Goals as goal

pub push_line-requires-clause-from : goal.push_line-requires-clause-from
push_line-requires-clause-from c = rw c.as_str.ensures at (IsCharBoundary-start c.as_str.result.now c.as_str.utf8)

pub push_end-requires-in-None : goal.push_end-requires-in-None
push_end-requires-in-None c = rw c.as_str.ensures at (IsCharBoundary-start c.as_str.result.now c.as_str.utf8)

pub returns-in_ok-push_line-in-Some : goal.returns-in_ok-push_line-in-Some
returns-in_ok-push_line-in-Some c =
    let split = rw c.as_str.ensures at c.in-Some.ensures in
    on_ok_weaker c.push_end.result
    (start_cut c.args.text.now (map piece_mark c.args.pieces.now.items) (map piece_mark c.push_line.new.pieces.items) (map piece_mark c.push_end.new.pieces.items) c.in-Some.before c.in-Some.after split.found split.before split.after c.in_ok-push_line-in-Some.ensures)
    c.push_end.ensures

pub returns-in-None : goal.returns-in-None
returns-in-None c =
    on_ok_weaker c.push_end-in-None.result
    (no_start_cut c.args.text.now (map piece_mark c.args.pieces.now.items) (map piece_mark c.push_end-in-None.new.pieces.items) (rw c.as_str.ensures at c.in-None.ensures.found))
    c.push_end-in-None.ensures
