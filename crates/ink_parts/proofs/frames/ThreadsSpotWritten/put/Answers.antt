use Rattle.std.proofs.Common.{◌≡◌, ◌∙◌, ◌∷◌, refl, reverse}
use Rattle.ink_model.specs.Flow.Frames.{map_thread}
use Rattle.ink_model.specs.Save.Spelling.{list_data, thread_data}
use Rattle.ink_tree.specs.Nodes.{place_of, story_tree}
use Rattle.ink_parts.proofs.Texts.{value_as}
use Rattle.ink_parts.proofs.Arrays.{list_mapped}
use Rattle.ink_parts.proofs.frames.ThreadsSpotWritten.put.Goals as goal

pub returns : goal.returns
returns c =
    let p = place_of (story_tree c.args.tree.now) in
    let t = c.args.self.now.threads in
    let same : list_data (λ f. thread_data (map_thread p f)) (reverse (c.top.result.now.thread ∷ reverse c.below.result.now))
    ≡ list_data (λ f. thread_data (map_thread p f)) (reverse (t.thread ∷ t.below)) = rw (c.top.ensures, c.below.ensures) refl in
    value_as c.put_pile.result _ _ _ _ (same ∙ list_mapped thread_data (map_thread p) (t.thread ∷ t.below)) (c.put_pile.ensures c.top.result.now.thread refl)
