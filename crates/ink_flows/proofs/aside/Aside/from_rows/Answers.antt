use Rattle.std.proofs.Common.{◌∙◌, ap, sym, subst, unwrap_or}
use Rattle.ink_flows.specs.Standing.{CurrentAt, rows_of, shown_rows}
use Rattle.ink_flows.proofs.Going.{begins_listed}
use Rattle.ink_flows.proofs.Indexes.{hole_or}
use Rattle.ink_flows.proofs.aside.Aside.from_rows.Goals as goal

pub invariant_of-result : goal.invariant_of-result
invariant_of-result c =
    let entries = c.args.rows.entries in (
      begins_listed (rows_of entries) c.requires.first,
      subst (λ i. CurrentAt i (shown_rows entries)) (sym (c.unwrap_or-current.ensures ∙ ap (λ o. unwrap_or o 0) c.hole.ensures)) (hole_or entries c.requires.current),
    )
