use Rattle.ink_parts.proofs.Common.{part_data, place_of, story_tree, list_whole}
use Rattle.ink_parts.proofs.placed.put_spot.Goals as goal

pub returns : goal.returns
returns c = list_whole part_data (place_of (story_tree c.args.tree.now) c.args.spot) c.put-2.result _ _ _ _ c.in_ok-put.ensures c.in_ok-put_parts.ensures c.put-2.ensures
