use Rattle.std.proofs.Common.{◌≡◌, ◌∙◌, ◌+◌, ap, arith, refl, rules, subst, sym, Err, inl}
use Rattle.ink_look.proofs.Common.{story_tree, log_of, config_back, RunStopsAtRefusal, config_of}
use Rattle.ink_look.specs.Looking.{Waits, waiting_after}
use Rattle.ink_look.specs.declared.looking.Looked.TheVariants as after
use Rattle.ink_look.proofs.Marks.{waits_as, waits_for}
use Rattle.ink_look.proofs.Searches.{EndsLine, ran_back, ran_none, ran_on, ran_out, ran_past, ran_to, ran_to_cut, ran_to_fault, ran_to_stop}
use Rattle.ink_look.proofs.looking.find_line.Goals as goal
use Rattle.ink_look.proofs.looking.find_line.Goals.{in-Nothing, in-Newline}
use Rattle.ink_effects.proofs.Refusals.{keeps_all, keeps_then, run_stops}

pub loop-step-init : goal.loop-step-init
loop-step-init g c =
    let s = story_tree c.args.story.now in
    record {
      ran = ran_none g.F.TurnFn.log (log_of g.O.Watcher.state) g.P.PureFn.meaning s c.args.desk.now (config_of s c.args.machine.now) (config_back s c.args.machine.now);
      watchers = refl;
      refusals = keeps_all g.F.TurnFn.refusals c.args.desk.now;
      start = refl;
      aside = refl;
      waits = c.requires.unmarked;
    }

-- a step, with or without a newline that waits
pub loop-step-preserved : goal.loop-step-preserved
loop-step-preserved g c =
    let s = story_tree c.args.story.now in
    let inv = c.loop-step.invariant in
    let l = c.in_ok-step_on.field-0 in
    let ran = ran_on g.F.TurnFn.log (log_of g.O.Watcher.state) g.P.PureFn.meaning s c.args.desk.now (config_of s c.args.machine.now) c.loop-step._step c.loop-step.desk c.step_on.new.desk
    (config_back s c.loop-step.machine) (config_of s c.loop-step.machine) (config_back s c.step_on.new.machine) (config_of s c.step_on.new.machine) c.loop-step.waiting inv.ran l
    c.in_ok-step_on.ensures.steps in
    let kept = keeps_then g.F.TurnFn.refusals c.args.desk.now c.loop-step.desk c.step_on.new.desk inv.refusals c.in_ok-step_on.ensures.refusals in
    elim c.match-branch-2.branch [
      | in-Nothing w ↦ record {
        ran = ran_past g.F.TurnFn.log (log_of g.O.Watcher.state) g.P.PureFn.meaning s c.args.desk.now (config_of s c.args.machine.now) (c.loop-step._step + 1) c.step_on.new.desk
            (config_back s c.step_on.new.machine) (config_of s c.step_on.new.machine) l _ w.in-Nothing.is w.waiting-is ran;
        watchers = c.in_ok-step_on.ensures.watchers ∙ inv.watchers;
        refusals = kept;
        start = c.in_ok-step_on.ensures.start ∙ inv.start;
        aside = c.in_ok-step_on.ensures.aside ∙ inv.aside;
        waits = waits_for l _ c.step_on.new.machine (w.waiting-is ∙ ap waiting_after (sym w.in-Nothing.is)) c.in_ok-step_on.ensures.waits;
      }
      | in-Newline w ↦ record {
        ran = ran_to g.F.TurnFn.log (log_of g.O.Watcher.state) g.P.PureFn.meaning s c.args.desk.now (config_of s c.args.machine.now) (c.loop-step._step + 1) c.step_on.new.desk
            (config_back s c.step_on.new.machine) (config_of s c.step_on.new.machine) l w.in-Newline.newline _ w.in-Newline.is w.waiting-is ran;
        watchers = c.in_ok-step_on.ensures.watchers ∙ inv.watchers;
        refusals = kept;
        start = c.in_ok-step_on.ensures.start ∙ inv.start;
        aside = c.in_ok-step_on.ensures.aside ∙ inv.aside;
        waits = waits_for l _ c.step_on.new.machine (w.waiting-is ∙ ap waiting_after (sym w.in-Newline.is)) c.in_ok-step_on.ensures.waits;
      }
    ]

-- the line was cut
pub returns-in-Cut-clause-line : goal.returns-in-Cut-clause-line
returns-in-Cut-clause-line g c =
    let s = story_tree c.args.story.now in
    let l = c.in_ok-step_on.field-0 in
    ran_to_cut g.F.TurnFn.log (log_of g.O.Watcher.state) g.P.PureFn.meaning s c.args.desk.now (config_of s c.args.machine.now) (c.loop-step._step + 1) c.step_on.new.desk
    (config_back s c.step_on.new.machine) (config_of s c.step_on.new.machine) l c.in-Cut.is (omega arith)
    (ran_on g.F.TurnFn.log (log_of g.O.Watcher.state) g.P.PureFn.meaning s c.args.desk.now (config_of s c.args.machine.now) c.loop-step._step c.loop-step.desk c.step_on.new.desk
    (config_back s c.loop-step.machine) (config_of s c.loop-step.machine) (config_back s c.step_on.new.machine) (config_of s c.step_on.new.machine) c.loop-step.waiting c.loop-step.invariant.ran l
    c.in_ok-step_on.ensures.steps)

pub returns-in-Cut-clause-watchers : goal.returns-in-Cut-clause-watchers
returns-in-Cut-clause-watchers g c = c.in_ok-step_on.ensures.watchers ∙ c.loop-step.invariant.watchers

pub returns-in-Cut-clause-start : goal.returns-in-Cut-clause-start
returns-in-Cut-clause-start g c = c.in_ok-step_on.ensures.start ∙ c.loop-step.invariant.start

pub returns-in-Cut-clause-mark : goal.returns-in-Cut-clause-mark
returns-in-Cut-clause-mark g c = waits_as c.in_ok-step_on.field-0 after.Cut c.step_on.new.machine c.in-Cut.is c.in_ok-step_on.ensures.waits

-- flow stopped
pub returns-in-Stopped-clause-line : goal.returns-in-Stopped-clause-line
returns-in-Stopped-clause-line g c =
    let s = story_tree c.args.story.now in
    let l = c.in_ok-step_on.field-0 in
    ran_to_stop g.F.TurnFn.log (log_of g.O.Watcher.state) g.P.PureFn.meaning s c.args.desk.now (config_of s c.args.machine.now) (c.loop-step._step + 1) c.step_on.new.desk
    (config_back s c.step_on.new.machine) (config_of s c.step_on.new.machine) l c.in-Stopped.is (omega arith)
    (ran_on g.F.TurnFn.log (log_of g.O.Watcher.state) g.P.PureFn.meaning s c.args.desk.now (config_of s c.args.machine.now) c.loop-step._step c.loop-step.desk c.step_on.new.desk
    (config_back s c.loop-step.machine) (config_of s c.loop-step.machine) (config_back s c.step_on.new.machine) (config_of s c.step_on.new.machine) c.loop-step.waiting c.loop-step.invariant.ran l
    c.in_ok-step_on.ensures.steps)

pub returns-in-Stopped-clause-watchers : goal.returns-in-Stopped-clause-watchers
returns-in-Stopped-clause-watchers g c = c.in_ok-step_on.ensures.watchers ∙ c.loop-step.invariant.watchers

pub returns-in-Stopped-clause-start : goal.returns-in-Stopped-clause-start
returns-in-Stopped-clause-start g c = c.in_ok-step_on.ensures.start ∙ c.loop-step.invariant.start

pub returns-in-Stopped-clause-mark : goal.returns-in-Stopped-clause-mark
returns-in-Stopped-clause-mark g c = waits_as c.in_ok-step_on.field-0 after.Stopped c.step_on.new.machine c.in-Stopped.is c.in_ok-step_on.ensures.waits

-- a fault
pub returns-in_err-step_on-clause-line : goal.returns-in_err-step_on-clause-line
returns-in_err-step_on-clause-line g c =
    let s = story_tree c.args.story.now in
    let is : c.from_residual.result ≡ Err c.in_err-step_on.field-0.0 = search rules in
    subst (λ r. EndsLine g.F.TurnFn.log (log_of g.O.Watcher.state) g.P.PureFn.meaning s c.args.desk.now (config_of s c.args.machine.now) c.step_on.new.desk (config_of s c.step_on.new.machine) r) (sym is)
    (ran_to_fault g.F.TurnFn.log (log_of g.O.Watcher.state) g.P.PureFn.meaning s c.args.desk.now (config_of s c.args.machine.now) c.loop-step._step c.loop-step.desk c.step_on.new.desk
    (config_back s c.loop-step.machine) (config_of s c.loop-step.machine) (config_back s c.step_on.new.machine) (config_of s c.step_on.new.machine) c.loop-step.waiting c.loop-step.invariant.ran _ (omega arith)
    c.in_err-step_on.ensures.steps)

pub returns-in_err-step_on-clause-watchers : goal.returns-in_err-step_on-clause-watchers
returns-in_err-step_on-clause-watchers g c = c.in_err-step_on.ensures.watchers ∙ c.loop-step.invariant.watchers

pub returns-in_err-step_on-clause-start : goal.returns-in_err-step_on-clause-start
returns-in_err-step_on-clause-start g c = c.in_err-step_on.ensures.start ∙ c.loop-step.invariant.start

-- no step is left, and no newline waits
pub returns-in_default-clause-line : goal.returns-in_default-clause-line
returns-in_default-clause-line g c =
    let s = story_tree c.args.story.now in
    ran_out g.F.TurnFn.log (log_of g.O.Watcher.state) g.P.PureFn.meaning s c.args.desk.now (config_of s c.args.machine.now) c.loop-step._step c.loop-step.desk
    (config_back s c.loop-step.machine) (config_of s c.loop-step.machine) c.loop-step.waiting c.in_default.is (omega arith) c.loop-step.invariant.ran

pub returns-in_default-clause-watchers : goal.returns-in_default-clause-watchers
returns-in_default-clause-watchers g c = c.loop-step.invariant.watchers

pub returns-in_default-clause-mark : goal.returns-in_default-clause-mark
returns-in_default-clause-mark g c = subst (λ w. Waits w c.loop-step.machine) c.in_default.is c.loop-step.invariant.waits

pub returns-in_default-clause-start : goal.returns-in_default-clause-start
returns-in_default-clause-start g c = c.loop-step.invariant.start

-- or one does
pub returns-clause-line : goal.returns-clause-line
returns-clause-line g c =
    let s = story_tree c.args.story.now in
    ran_back g.F.TurnFn.log (log_of g.O.Watcher.state) g.P.PureFn.meaning s c.args.desk.now (config_of s c.args.machine.now) c.loop-step._step c.loop-step.desk
    (config_back s c.loop-step.machine) (config_of s c.loop-step.machine) c.loop-step.waiting c.in-Some._newline (config_of s c.back-changes.new.self) c.in-Some.is (omega arith) c.loop-step.invariant.ran
    (c.back-changes.ensures.config s)

pub returns-clause-watchers : goal.returns-clause-watchers
returns-clause-watchers g c = c.loop-step.invariant.watchers

pub returns-clause-start : goal.returns-clause-start
returns-clause-start g c = c.back-changes.ensures.start ∙ c.loop-step.invariant.start

-- turn functions that were refused memory
pub returns-in-Cut-clause-refusals : goal.returns-in-Cut-clause-refusals
returns-in-Cut-clause-refusals g c = keeps_then g.F.TurnFn.refusals c.args.desk.now c.loop-step.desk c.step_on.new.desk c.loop-step.invariant.refusals c.in_ok-step_on.ensures.refusals

pub returns-in-Stopped-clause-refusals : goal.returns-in-Stopped-clause-refusals
returns-in-Stopped-clause-refusals g c = keeps_then g.F.TurnFn.refusals c.args.desk.now c.loop-step.desk c.step_on.new.desk c.loop-step.invariant.refusals c.in_ok-step_on.ensures.refusals

pub returns-in_err-step_on-clause-refusals : goal.returns-in_err-step_on-clause-refusals
returns-in_err-step_on-clause-refusals g c =
    let is : c.from_residual.result ≡ Err c.in_err-step_on.field-0.0 = search rules in
    subst (RunStopsAtRefusal g.F.TurnFn.refusals c.args.desk.now c.step_on.new.desk) (sym is)
    (run_stops g.F.TurnFn.refusals c.args.desk.now c.loop-step.desk c.step_on.new.desk c.in_err-step_on.field-0.0 c.loop-step.invariant.refusals c.in_err-step_on.ensures.refusals)

pub returns-in_default-clause-refusals : goal.returns-in_default-clause-refusals
returns-in_default-clause-refusals g c = inl c.loop-step.invariant.refusals

pub returns-clause-refusals : goal.returns-clause-refusals
returns-clause-refusals g c = c.loop-step.invariant.refusals

pub returns-in-Cut-clause-aside : goal.returns-in-Cut-clause-aside
returns-in-Cut-clause-aside g c = c.in_ok-step_on.ensures.aside ∙ c.loop-step.invariant.aside

pub returns-in-Stopped-clause-aside : goal.returns-in-Stopped-clause-aside
returns-in-Stopped-clause-aside g c = c.in_ok-step_on.ensures.aside ∙ c.loop-step.invariant.aside

pub returns-clause-aside : goal.returns-clause-aside
returns-clause-aside g c = c.back-changes.ensures.aside ∙ c.loop-step.invariant.aside
