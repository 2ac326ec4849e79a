use Rattle.std.proofs.Common.{◌∙◌, ap, option_map, subst, sym}
use Rattle.ink_step.proofs.Common.{story_tree, config_of, place_of}
use Rattle.ink_model.specs.Run.Configuration.{start}
use Rattle.ink_step.specs.Steps.{FailsToOpen}
use Rattle.ink_step.proofs.Openings.{first_of, opens_plainly, opens, fails}
use Rattle.ink_step.proofs.machine.Machine.open_with_room.Goals as goal

pub returns-in_default-clause-ok : goal.returns-in_default-clause-ok
returns-in_default-clause-ok c =
    let s = story_tree c.args.story.now in
    opens_plainly _ _ c.first_declaration.ensures _ _ (ap (option_map (place_of s)) c.in_default.is) c.at_start.ensures.at_start c.new.ensures.rows

pub returns-in-Err-clause-err : goal.returns-in-Err-clause-err
returns-in-Err-clause-err c =
    let s = story_tree c.args.story.now in
    subst (λ vs. FailsToOpen s c.in-Err.fault vs) (sym c.into_globals-globals.ensures)
    (fails _ _ c.first_declaration.ensures _ _ (ap (option_map (place_of s)) c.in-Some.is) (first_of _ _ _ (c.fresh-machine.ensures.fresh s) c.undeclared.ensures) _ _ c.in-Err.ensures.runs)

pub returns-in-Ok-clause-ok : goal.returns-in-Ok-clause-ok
returns-in-Ok-clause-ok c =
    let s = story_tree c.args.story.now in
    opens _ _ c.first_declaration.ensures _ _ (ap (option_map (place_of s)) c.in-Some.is) (first_of _ _ _ (c.fresh-machine.ensures.fresh s) c.undeclared.ensures) (config_of s c.run_alone-outcome.new.self) _ c.in-Ok.ensures.runs
    (c.at_start-in-Ok.ensures.at_start ∙ ap (start s) c.into_globals-globals.ensures)
