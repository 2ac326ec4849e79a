use Rattle.std.proofs.Common.{◌∷◌, refl, reverse}
use Rattle.ink_parts.proofs.Common.{map_frame, frame_data, finally, place_of, story_tree}
use Rattle.ink_parts.proofs.Texts.{value_as}
use Rattle.ink_parts.proofs.Arrays.{list_mapped}
use Rattle.ink_parts.proofs.frames.put_frames.Goals as goal

pub returns : goal.returns
returns c =
    let p = place_of (story_tree c.args.tree.now) in
    let r = c.put_pile.result in
    finally r _ _ _ _ _ c.in_ok-put.ensures
    (value_as r _ _ _ _ (list_mapped frame_data (map_frame p) (c.args.top.now ∷ reverse c.args.below.now)) (c.put_pile.ensures c.args.top.now refl))
