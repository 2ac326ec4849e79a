use Rattle.std.proofs.Common.{◌≡◌, IfOk, subst}
use Rattle.serde_json.specs.Written.{compact_text}
use Rattle.ink_check.specs.Standing.{story_tree}
use Rattle.ink_save.proofs.Keeping.{kept_game, read_again}
use Rattle.ink_sound.proofs.Stories.{spelled_fits}
use Rattle.ink_save.proofs.saving.write_text.Goals as goal

pub returns-clause-spelled : goal.returns-clause-spelled
returns-clause-spelled c =
    let s = story_tree c.args.story.now in
    subst (λ g. IfOk c.print.result (λ text. text ≡ compact_text g))
    (kept_game s c.args.machine.now c.parts-parts.result c.kept_of-kept.result _ c.kept_of-kept.ensures c.tree-tree.ensures.tree (c.parts-parts.ensures.config s) c.parts-parts.ensures.aside) c.print.ensures

pub returns-clause-reads_back : goal.returns-clause-reads_back
returns-clause-reads_back c = λ stands.
    let s = story_tree c.args.story.now in
    read_again s (spelled_fits s c.tree-tree.ensures.spelled c.tree-tree.ensures.good) _ stands c.print.result (returns-clause-spelled c)
