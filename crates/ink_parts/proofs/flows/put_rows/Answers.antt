use Rattle.std.proofs.Common.{sym}
use Rattle.ink_parts.proofs.Common.{story_tree, row_in}
use Rattle.ink_parts.proofs.Texts.{row_last, row_more}
use Rattle.ink_parts.proofs.flows.put_rows.Goals as goal

pub loop-index-preserved : goal.loop-index-preserved
loop-index-preserved c =
    row_more (row_in (story_tree c.args.tree.now) c.args.current.now) _ _ _ _ _ _ (sym c.in-Some.ensures) c.loop-index.invariant c.in_ok-put_row.ensures

pub returns-in_default : goal.returns-in_default
returns-in_default c = row_last (row_in (story_tree c.args.tree.now) c.args.current.now) c.args.aside.now c.loop-index.index _ _ (sym c.in_default.ensures) c.loop-index.invariant
