use Rattle.std.proofs.Common.{◌∙◌, ◌≤◌, ap, map, subst, sym}
use Rattle.ink_parts.proofs.Common.{take_all, view, global_data}
use Rattle.ink_parts.proofs.Arrays.{row_last, row_more}
use Rattle.ink_parts.proofs.globals.write_rows.Goals as goal

pub loop-index-preserved : goal.loop-index-preserved
loop-index-preserved c =
    ap (map view) c.in_ok-push.ensures.items
    ∙ row_more global_data _ _ _ c.loop-index.made.items c.in_ok-write_global.field-0 (sym c.in-Some.ensures) c.in_ok-write_global.ensures c.loop-index.invariant

pub returns-in_default : goal.returns-in_default
returns-in_default c = row_last global_data c.args.globals.now.rows c.loop-index.index c.loop-index.made.items (sym c.in_default.ensures) c.loop-index.invariant

pub returns : goal.returns
returns c =
    c.loop-index.invariant ∙ ap (map global_data) (take_all c.loop-index.index c.args.globals.now.rows (subst (λ n. n ≤ c.loop-index.index) c.len-index-end.ensures.len c.loop-index-test.false))
