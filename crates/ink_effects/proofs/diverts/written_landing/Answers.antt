use Rattle.std.proofs.Common.{◌≡◌, ◌∙◌, ap, None, rules}
use Rattle.ink_effects.proofs.Common.{story_tree}
use Rattle.ink_effects.proofs.Landings.{nowhere}
use Rattle.ink_model.specs.Story.Acceptance.{written_target}
use Rattle.ink_effects.proofs.diverts.written_landing.Goals as goal

pub returns-in_err-node_at : goal.returns-in_err-node_at
returns-in_err-node_at c =
    let is : c.from_residual.result ≡ None = search rules in
    rw is (nowhere _ _ c.in_err-node_at.ensures)

pub returns : goal.returns
returns c =
    let s = story_tree c.args.story.now in
    c.target.ensures ∙ ap (written_target s) c.in_ok-node_at.ensures
