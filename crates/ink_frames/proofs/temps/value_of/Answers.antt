use Rattle.std.proofs.Common.{◌≡◌, ◌∙◌, Some, true, ap, arith, bytes_eq, get_or, sym}
use Rattle.ink_frames.proofs.Searching.{no_row, row_here}
use Rattle.ink_frames.proofs.temps.value_of.Goals as goal

pub returns-then-eq : goal.returns-then-eq
returns-then-eq c =
    let name = c.args.name.now in
    let rows = c.args.rows.now in
    let i = c.loop-row.row-index in
    let item = c.row-item.result in
    let same : bytes_eq (get_or rows i item).0 name ≡ true =
    ap (λ r. bytes_eq r.0 name) (sym c.row-item.is) ∙ ap (λ key. bytes_eq key name) (sym c.as_str.ensures) ∙ sym c.eq.ensures ∙ c.if-eq.true in
    ap (λ r. Some r.1) c.row-item.is ∙ sym (row_here name rows i item c.requires c.loop-row-test.true same)

pub returns : goal.returns
returns c =
    sym (no_row c.args.name.now c.args.rows.now (λ j d below. c.loop-row.invariant j d (omega (arith, below, c.loop-row-test.false))))
