use Rattle.ink_parts.proofs.Common.{row_data, rows_at, finally, list_whole, story_tree, rows_from}
use Rattle.ink_parts.proofs.counts.put_counts.Goals as goal

pub returns : goal.returns
returns c =
    let s = story_tree c.args.tree.now in
    finally c.put-3.result _ _ _ _ _ c.in_ok-put.ensures
    (list_whole row_data (rows_at s (rows_from 0 c.args.slots.now)) c.put-3.result _ _ _ _ c.in_ok-put-2.ensures c.in_ok-put_slots.ensures c.put-3.ensures)
