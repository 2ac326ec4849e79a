use Rattle.ink_tree.specs.Nodes.{story_tree}
use Rattle.ink_parts.proofs.Texts.{added_as, pile_whole}
use Rattle.ink_parts.proofs.written.put_pile.Goals as goal

pub returns : goal.returns
returns g c last same =
    pile_whole (g.T.Written.spelling (story_tree c.args.tree.now)) c.args.below.now last c.put-3.result _ _ _ _ _ c.in_ok-put.ensures c.in_ok-put_items.ensures
    (added_as _ _ _ _ same c.in_ok-put-2.ensures) c.put-3.ensures
