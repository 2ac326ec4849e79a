use Rattle.std.proofs.Common.{◌∙◌, ◌≤◌, ap, map, subst, sym}
use Rattle.ink_parts.proofs.Common.{take_all, view, story_tree, row_in}
use Rattle.ink_parts.proofs.Arrays.{row_last, row_more}
use Rattle.ink_parts.proofs.flows.write_rows.Goals as goal

pub loop-index-preserved : goal.loop-index-preserved
loop-index-preserved c =
    ap (map view) c.in_ok-push.ensures.items
    ∙ row_more (row_in (story_tree c.args.tree.now) c.args.current.now) _ _ _ c.loop-index.made.items c.in_ok-write_row.field-0 (sym c.in-Some.ensures) c.in_ok-write_row.ensures c.loop-index.invariant

pub returns-in_default : goal.returns-in_default
returns-in_default c = row_last (row_in (story_tree c.args.tree.now) c.args.current.now) c.args.aside.now c.loop-index.index c.loop-index.made.items (sym c.in_default.ensures) c.loop-index.invariant

pub returns : goal.returns
returns c =
    c.loop-index.invariant ∙ ap (map (row_in (story_tree c.args.tree.now) c.args.current.now)) (take_all c.loop-index.index c.args.aside.now (subst (λ n. n ≤ c.loop-index.index) c.len-index-end.ensures c.loop-index-test.false))
