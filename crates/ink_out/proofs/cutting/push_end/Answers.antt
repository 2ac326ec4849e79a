use Rattle.std.proofs.lemmas.Str.{IsCharBoundary-from_rest}
use Rattle.std.specs.Str.{IsCharBoundary}
use Rattle.std.proofs.Common.{◌≡◌, ◌∙◌, ap, drop, map, subst}
use Rattle.std.proofs.lemmas.Result.{on_ok_weaker}
use Rattle.ink_out.specs.Cutting.{piece_mark}
use Rattle.ink_out.proofs.Parts.{end_cut}
use Rattle.ink_out.proofs.cutting.push_end.Goals as goal

pub returns-in_ok-push_line-in-Some : goal.returns-in_ok-push_line-in-Some
returns-in_ok-push_line-in-Some c =
    let s = c.range_from.result.now in
    let is : s ≡ drop c.args.from c.args.text.now = c.range_from.ensures.value ∙ ap (drop c.args.from) c.as_str.ensures in
    on_ok_weaker c.push_piece.result
    (end_cut c.args.text.now s (map piece_mark c.args.pieces.now.items) (map piece_mark c.push_line.new.pieces.items) (map piece_mark c.push_piece.new.pieces.items) c.args.from c.in-Some.before c.in-Some.after is c.in-Some.ensures.found c.in-Some.ensures.before c.in-Some.ensures.after c.in_ok-push_line-in-Some.ensures)
    (rw c.as_str-end.ensures at c.push_piece.ensures)

pub push_line-requires-clause-to : goal.push_line-requires-clause-to
push_line-requires-clause-to c =
    let is = c.range_from.ensures.value ∙ ap (drop c.args.from) c.as_str.ensures in
    IsCharBoundary-from_rest c.args.text.now c.args.from c.in-Some.before c.requires.0 (subst (λ cs. IsCharBoundary cs c.in-Some.before) is c.in-Some.ensures.edges.0)

pub push_piece-requires-clause-from : goal.push_piece-requires-clause-from
push_piece-requires-clause-from c =
    let is = c.range_from.ensures.value ∙ ap (drop c.args.from) c.as_str.ensures in
    IsCharBoundary-from_rest c.args.text.now c.args.from c.in-Some.after c.requires.0 (subst (λ cs. IsCharBoundary cs c.in-Some.after) is c.in-Some.ensures.edges.1)
