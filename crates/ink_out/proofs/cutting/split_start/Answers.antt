use Rattle.std.proofs.Common.{refl, sym, ◌-◌, arith, rules}
use Rattle.std.proofs.Math.Nat.{sub-zero}
use Rattle.std.proofs.lemmas.List.Sums.{prefix_len-le-length, suffix_len-le-length}
use Rattle.ink_model.specs.Text.Bytes.{is_blank, is_white}
use Rattle.ink_model.proofs.Ends.{cut_at_start, leading_is}
use Rattle.ink_out.proofs.WhiteEnds.{blanks_le_white, start_has, white_ascii, start_after}
use Rattle.ink_out.proofs.cutting.split_start.Goals as goal

pub returns-then-not-is_newline_at-clause-found : goal.returns-then-not-is_newline_at-clause-found
returns-then-not-is_newline_at-clause-found c = rw (start_has c.args.text.now, sym c.leading-first.ensures) (search rules)

pub range-requires-clause-end_boundary : goal.range-requires-clause-end_boundary
range-requires-clause-end_boundary c = cut_at_start is_white white_ascii c.args.text.now c.leading-white.result c.utf8.text (omega arith)

pub overflow_sub-after : goal.overflow_sub-after
overflow_sub-after c =
    let white = c.leading-white.result in
    let text = c.args.text.now in
    omega (arith, suffix_len-le-length is_blank c.range.result.now, prefix_len-le-length is_white text)

pub returns-clause-found : goal.returns-clause-found
returns-clause-found c = rw (start_has c.args.text.now, sym c.leading-first.ensures) (search rules)

pub returns-clause-before : goal.returns-clause-before
returns-clause-before c = rw (leading_is is_blank c.args.text.now, sym c.leading-first.ensures) refl

pub returns-clause-after : goal.returns-clause-after
returns-clause-after c =
    let white = rw sub-zero at c.range.ensures.value in
    rw (sym (start_after c.args.text.now), sym c.leading-white.ensures, sym white, sym c.trailing.ensures) refl

pub returns-clause-edges : goal.returns-clause-edges
returns-clause-edges c =
    let text = c.args.text.now in (
      cut_at_start is_white white_ascii text c.leading-first.result c.utf8.text (omega (arith, blanks_le_white text)),
      cut_at_start is_white white_ascii text (c.leading-white.result - c.trailing.result) c.utf8.text (omega arith),
    )
