use Rattle.ink_parts.proofs.Common.{finally, list_whole, story_tree, row_in}
use Rattle.ink_parts.proofs.Shown.{flows_shown}
use Rattle.ink_parts.proofs.Texts.{value_as}
use Rattle.ink_parts.proofs.flows.put_flows.Goals as goal

pub returns : goal.returns
returns c =
    let s = story_tree c.args.tree.now in
    let current = c.args.current.now in
    let r = c.put-3.result in
    finally r _ _ _ _ _ c.in_ok-put.ensures (value_as r _ _ _ _ (flows_shown s current c.args.aside.now)
    (list_whole (row_in s current) c.args.aside.now r _ _ _ _ c.in_ok-put-2.ensures c.in_ok-put_rows.ensures c.put-3.ensures))
