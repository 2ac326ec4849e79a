use Rattle.std.proofs.Common.{◌≡◌, ◌∙◌, ap, Some, None, subst}
use Rattle.ink_effects.proofs.Common.{story_tree, node_place, place_of}
use Rattle.ink_model.specs.Story.Path.{ends_in_index, target}
use Rattle.ink_effects.proofs.Landings.{landed_nowhere, landed_on, root_is}
use Rattle.ink_effects.proofs.diverts.landing_on.Goals as goal

pub returns-in_err-place : goal.returns-in_err-place
returns-in_err-place c =
    let s = story_tree c.args.story.now in
    let path = c.args.path.now in
    rw c.from_residual.ensures (landed_nowhere s path (subst (λ t. None ≡ target t (node_place t (record { number = 0 })) path) c.tree.ensures.tree c.in_err-place.ensures ∙ ap (λ p. target s p path) (root_is s)))

pub returns : goal.returns
returns c =
    let s = story_tree c.args.story.now in
    let path = c.args.path.now in
    landed_on s path (record { place = c.in_ok-place.place; enters = c.ends_in_index.result })
    (subst (λ t. Some (place_of t c.in_ok-place.place) ≡ target t (node_place t (record { number = 0 })) path) c.tree.ensures.tree c.in_ok-place.ensures ∙ ap (λ p. target s p path) (root_is s))
    (c.ends_in_index.ensures ∙ ap ends_in_index c.as_slice.ensures)
