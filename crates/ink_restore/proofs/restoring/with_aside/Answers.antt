use Rattle.std.proofs.Common.{◌∙◌, Some, ap, option_map, sym}
use Rattle.ink_flows.specs.Standing.{rows_of}
use Rattle.ink_restore.specs.Gathered.{with_rows}
use Rattle.ink_restore.proofs.restoring.with_aside.Goals as goal

pub returns-in-Some : goal.returns-in-Some
returns-in-Some c =
    let parts = c.into_parts-rows.ensures in
    ap (λ a. Some (c.in-Some.flow, a)) (c.from_rows.ensures ∙ ap (λ p. rows_of p.0.entries) parts)
    ∙ ap (option_map (with_rows (rows_of c.args.gathered.rows.entries))) (sym c.in-Some.is ∙ ap (λ p. p.1) parts)
