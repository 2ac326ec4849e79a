use Rattle.std.proofs.Common.{refl, sym, ◌<◌, ◌-◌, ◌+◌, length, arith, rules}
use Rattle.ink_out.proofs.Common.{suffix_len, is_blank, is_white}
use Rattle.std.proofs.lemmas.List.Sums.{prefix_len-le-length, suffix_len-le-length}
use Rattle.ink_model.proofs.Ends.{cut_at_end, trailing_is}
use Rattle.ink_out.proofs.WhiteEnds.{end_found, end_none, white_ascii, blanks_le_white, end_before}
use Rattle.ink_out.proofs.cutting.split_end.Goals as goal
use Rattle.ink_out.proofs.cutting.split_end.Goals.{then-after-eq0-via-then-after-eq0, then-after-eq0-via-else-after-eq0+then-not-is_newline_at}

pub overflow_sub-after : goal.overflow_sub-after
overflow_sub-after c = omega (arith, suffix_len-le-length is_blank c.args.text.now)

pub returns-then-after-eq0-clause-found : goal.returns-then-after-eq0-clause-found
returns-then-after-eq0-clause-found c =
    elim c.then-after-eq0.branch [
      | then-after-eq0-via-then-after-eq0 w ↦ sym (end_none c.args.text.now (omega arith))
      | then-after-eq0-via-else-after-eq0+then-not-is_newline_at w ↦
          let some : suffix_len is_blank c.args.text.now < length c.args.text.now = omega arith in
          rw (end_found c.args.text.now some, sym c.trailing.ensures) (search rules)
    ]

pub overflow_sub-white : goal.overflow_sub-white
overflow_sub-white c = omega (arith, suffix_len-le-length is_white c.args.text.now)

pub range_from-requires : goal.range_from-requires
range_from-requires c = λ _. cut_at_end is_white white_ascii c.args.text.now (length c.args.text.now - c.trailing-2.result) (omega arith) (omega arith)

pub overflow_add-first : goal.overflow_add-first
overflow_add-first c = omega (arith, prefix_len-le-length is_blank c.range_from.result.now)

pub returns-clause-found : goal.returns-clause-found
returns-clause-found c =
    let some : suffix_len is_blank c.args.text.now < length c.args.text.now = omega arith in
    rw (end_found c.args.text.now some, sym c.trailing.ensures) (search rules)

pub returns-clause-before : goal.returns-clause-before
returns-clause-before c =
    rw (sym (end_before c.args.text.now), sym c.trailing-2.ensures, sym c.range_from.ensures.value, sym c.leading.ensures) refl

pub returns-clause-after : goal.returns-clause-after
returns-clause-after c = rw (trailing_is is_blank c.args.text.now, sym c.trailing.ensures) refl

pub returns-clause-edges : goal.returns-clause-edges
returns-clause-edges c =
    let text = c.args.text.now in (
      cut_at_end is_white white_ascii text (length text - c.trailing-2.result + c.leading.result) (omega arith)
          (omega (arith, prefix_len-le-length is_blank c.range_from.result.now)),
      cut_at_end is_white white_ascii text (length text - c.trailing.result) (omega (arith, blanks_le_white)) (omega arith),
    )
