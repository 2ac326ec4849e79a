use Rattle.std.proofs.Common.{◌≡◌, IfOk, subst}
use Rattle.serde_json.specs.View.{view}
use Rattle.ink_check.specs.Standing.{story_tree}
use Rattle.ink_save.proofs.Keeping.{kept_game}
use Rattle.ink_save.proofs.saving.write.Goals as goal

pub returns : goal.returns
returns c =
    let s = story_tree c.args.story.now in
    subst (λ g. IfOk c.write.result (λ json. view json ≡ g))
    (kept_game s c.args.machine.now c.parts-parts.result c.kept_of-kept.result _ c.kept_of-kept.ensures c.tree-tree.ensures.tree (c.parts-parts.ensures.config s) c.parts-parts.ensures.aside) c.write.ensures
