use Rattle.std.proofs.Common.{subst, sym, Ok}
use Rattle.ink_step.proofs.Common.{story_tree, bound_by, asks, step, presses, StepMakes, step_end, config_of}
use Rattle.ink_step.proofs.Makes.{makes_went}
use Rattle.ink_step.proofs.machine.Machine.forward.Goals as goal

pub returns-in-Ok-clause-step : goal.returns-in-Ok-clause-step
returns-in-Ok-clause-step g c =
    let s = story_tree c.args.story.now in
    let desk = c.args.desk.now in
    let b = bound_by g.P.PureFn.meaning desk.functions in
    let before = config_of s c.args.self.now in
    let left = c.step.new.self in
    let h = c.in-Ok.ensures.step in (
      h.0,
      h.1,
      subst (λ on. StepMakes s b desk.next (presses s c.args.self.now left) (asks s b before) (step s b before) h.0 before.shared.globals (config_of s left) (step_end (Ok on))) (sym c.went.ensures)
          (makes_went s b desk.next (presses s c.args.self.now left) h.0 before.shared.globals (config_of s left) (asks s b before) (step s b before) c.in-Ok.end h.2),
    )
