use Rattle.std.proofs.Common.{◌≡◌, ◌∙◌, ◌∷◌, IfOk, refl, reverse, subst}
use Rattle.ink_parts.proofs.Common.{view, place_of, story_tree}
use Rattle.ink_model.specs.Flow.Frames.{map_thread}
use Rattle.ink_model.specs.Save.Spelling.{list_data, thread_data}
use Rattle.ink_parts.proofs.Arrays.{list_mapped}
use Rattle.ink_parts.proofs.frames.ThreadsSpotWritten.write.Goals as goal

pub returns : goal.returns
returns c =
    let p = place_of (story_tree c.args.tree.now) in
    let t = c.args.self.now.threads in
    let same : list_data (λ f. thread_data (map_thread p f)) (reverse (c.top.result.now.thread ∷ reverse c.below.result.now))
    ≡ list_data (λ f. thread_data (map_thread p f)) (reverse (t.thread ∷ t.below)) = rw (c.top.ensures, c.below.ensures) refl in
    subst (λ q. IfOk c.write_pile.result (λ json. view json ≡ q)) (same ∙ list_mapped thread_data (map_thread p) (t.thread ∷ t.below)) (c.write_pile.ensures c.top.result.now.thread refl)
