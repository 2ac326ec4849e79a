use Rattle.std.proofs.Common.{◌≡◌, ◌∙◌, ap, length, refl, rules, subst, sym, None, Err, Ok}
use Rattle.ink_look.proofs.Common.{story_tree, bound_by, config_back, config_of}
use Rattle.ink_look.proofs.Steps.{seeks_on, unmarked_makes}
use Rattle.ink_look.proofs.looking.seek.Goals as goal
use Rattle.ink_look.specs.Looking.{StepsOn, Waits, waiting_then}
use Rattle.ink_effects.specs.Refusals.{StepStopsAtRefusal}
use Rattle.ink_moves.specs.declared.flow.StepEnd.TheVariants as ends

pub returns-in-Went-clause-steps : goal.returns-in-Went-clause-steps
returns-in-Went-clause-steps g c =
    let s = story_tree c.args.story.now in
    let b = bound_by g.P.PureFn.meaning c.args.desk.now.functions in
    let h = c.in_ok-step.ensures.step in (
      h.0,
      h.1,
      seeks_on s b c.args.desk.now.next h.0 (config_back s c.args.machine.now) (config_of s c.args.machine.now) (config_of s c.step.new.self) (config_back s c.found.new.machine) (config_of s c.found.new.machine)
          (c.found.ensures.config s) c.len-marks.result c.found.result (sym (c.len-marks.ensures.marks ∙ ap (λ d. length d.page.line) (c.parts.ensures.config s))) (c.found.ensures.found s) (c.found.ensures.here s)
          (unmarked_makes s b c.args.desk.now.next c.args.machine.now c.step.new.self h.0 _ (Ok ends.Went) c.requires.unmarked c.in_ok-step.ensures.mark (ap Ok c.in-Went.is) h.2),
    )

pub returns-in_err-step-clause-steps : goal.returns-in_err-step-clause-steps
returns-in_err-step-clause-steps g c =
    let s = story_tree c.args.story.now in
    let b = bound_by g.P.PureFn.meaning c.args.desk.now.functions in
    let h = c.in_err-step.ensures.step in
    let left = c.step.new.self in
    let f = c.in_err-step.field-0.0 in
    let is : c.from_residual.result ≡ Err f = search rules in (
      h.0,
      h.1,
      subst (StepsOn s b c.args.desk.now.next None (config_back s c.args.machine.now) (config_of s c.args.machine.now) h.0 (config_back s left) (config_of s left)) (sym is)
          (unmarked_makes s b c.args.desk.now.next c.args.machine.now left h.0 _ (Err f) c.requires.unmarked c.in_err-step.ensures.mark refl h.2, tt),
    )

-- no mark stands, as none stood
pub returns-in_err-step-clause-waits : goal.returns-in_err-step-clause-waits
returns-in_err-step-clause-waits g c =
    let is : c.from_residual.result ≡ Err c.in_err-step.field-0.0 = search rules in
    subst (λ r. Waits (waiting_then r) c.step.new.self) (sym is) (c.in_err-step.ensures.mark ∙ c.requires.unmarked)

pub returns-in_err-step-clause-refusals : goal.returns-in_err-step-clause-refusals
returns-in_err-step-clause-refusals g c =
    let is : c.from_residual.result ≡ Err c.in_err-step.field-0.0 = search rules in
    subst (StepStopsAtRefusal g.F.TurnFn.refusals c.args.desk.now c.step.new.desk) (sym is) c.in_err-step.ensures.refusals

pub found-requires : goal.found-requires
found-requires g c = record { unmarked = c.in_ok-step.ensures.mark ∙ c.requires.unmarked }

pub returns-in-Went-clause-aside : goal.returns-in-Went-clause-aside
returns-in-Went-clause-aside g c = c.found.ensures.aside ∙ c.in_ok-step.ensures.aside

pub returns-in-Went-clause-refusals : goal.returns-in-Went-clause-refusals
returns-in-Went-clause-refusals g c = c.in_ok-step.ensures.refusals

pub returns-in_default-clause-refusals : goal.returns-in_default-clause-refusals
returns-in_default-clause-refusals g c = c.in_ok-step.ensures.refusals

pub returns-in_default-clause-watchers : goal.returns-in_default-clause-watchers
returns-in_default-clause-watchers g c = c.in_ok-step.ensures.watchers

pub returns-in_default-clause-start : goal.returns-in_default-clause-start
returns-in_default-clause-start g c = c.in_ok-step.ensures.start

pub returns-in_default-clause-aside : goal.returns-in_default-clause-aside
returns-in_default-clause-aside g c = c.in_ok-step.ensures.aside

pub returns-in_default-clause-waits : goal.returns-in_default-clause-waits
returns-in_default-clause-waits g c = c.in_ok-step.ensures.mark ∙ c.requires.unmarked
