use Rattle.std.proofs.Common.{map, sym, ap, ◌∙◌, Bool}
use Rattle.ink_out.proofs.Common.{let_through, piece_mark}
use Rattle.ink_out.proofs.Noting.{let_through-false}
use Rattle.ink_out.proofs.output.let_through.Goals as goal

pub returns-then-not-fresh : goal.returns-then-not-fresh
returns-then-not-fresh c =
    let marks = map piece_mark c.args.pieces.items in
    sym (ap (λ (fresh : Bool). let_through fresh marks) c.if-not-fresh.true ∙ let_through-false marks)
