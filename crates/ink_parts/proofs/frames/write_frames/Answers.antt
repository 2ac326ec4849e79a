use Rattle.std.proofs.Common.{◌≡◌, ◌∷◌, IfOk, refl, reverse, subst}
use Rattle.ink_parts.proofs.Common.{view, map_frame, frame_data, place_of, story_tree}
use Rattle.ink_parts.proofs.Arrays.{list_mapped}
use Rattle.ink_parts.proofs.frames.write_frames.Goals as goal

pub returns : goal.returns
returns c =
    let p = place_of (story_tree c.args.tree.now) in
    subst (λ q. IfOk c.write_pile.result (λ json. view json ≡ q)) (list_mapped frame_data (map_frame p) (c.args.top.now ∷ reverse c.args.below.now)) (c.write_pile.ensures c.args.top.now refl)
