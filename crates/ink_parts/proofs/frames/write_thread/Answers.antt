use Rattle.std.proofs.Common.{◌∷◌, codes, map, option_map, reverse}
use Rattle.ink_parts.proofs.Common.{put, map_frame, place_of, story_tree}
use Rattle.ink_model.specs.Save.Spelling.{frame_data, list_data, place_or_null}
use Rattle.ink_parts.proofs.Arrays.{object_made}
use Rattle.ink_parts.proofs.frames.write_thread.Goals as goal

pub returns : goal.returns
returns c =
    let p = place_of (story_tree c.args.tree.now) in
    let frames = list_data frame_data (reverse (map_frame p c.args.top.now ∷ map (map_frame p) (reverse c.args.below.now))) in
    object_made (λ ms. put (codes "previous") (place_or_null (option_map p c.args.previous)) (put (codes "frames") frames ms)) _ _ c.new-members.ensures.empty c.in_ok-add_thread.ensures
