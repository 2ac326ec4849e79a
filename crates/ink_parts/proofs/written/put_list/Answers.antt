use Rattle.ink_parts.proofs.Common.{story_tree, list_whole}
use Rattle.ink_parts.proofs.written.put_list.Goals as goal

pub returns : goal.returns
returns g c =
    list_whole (g.T.Written.spelling (story_tree c.args.tree.now)) c.args.items.now c.put-2.result _ _ _ _ c.in_ok-put.ensures c.in_ok-put_items.ensures c.put-2.ensures
