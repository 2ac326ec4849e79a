use Rattle.std.proofs.Common.{IfSome, subst}
use Rattle.ink_model.specs.Save.Unspelled.{game_of}
use Rattle.ink_restore.specs.Counted.{AreOwn}
use Rattle.ink_save.proofs.Reading.{finds_machine, finds_nothing}
use Rattle.ink_spelling.specs.Layouts.{layout_as}
use Rattle.ink_tree.specs.Nodes.{story_tree}
use Rattle.ink_save.proofs.loading.build_machine.Goals as goal

pub returns-in-Some-clause-made : goal.returns-in-Some-clause-made
returns-in-Some-clause-made c =
    let s = story_tree c.args.tree.now in
    let own : AreOwn s c.in-Some.restored.shared.counts.rows =
    subst (λ o. IfSome o (λ r. AreOwn s r.shared.counts.rows)) c.in-Some.is c.in_ok-restored.ensures.own in
    finds_machine s (game_of (layout_as c.args.saved.now)) c.in_ok-restored.field-0 c.in-Some.restored c.machine_of.result c.in-Some.is (c.machine_of.ensures.game s own) c.in_ok-restored.ensures.restores

pub returns-in-None-clause-made : goal.returns-in-None-clause-made
returns-in-None-clause-made c =
    finds_nothing (story_tree c.args.tree.now) (game_of (layout_as c.args.saved.now)) c.in_ok-restored.field-0 c.in-None.is c.in_ok-restored.ensures.restores
