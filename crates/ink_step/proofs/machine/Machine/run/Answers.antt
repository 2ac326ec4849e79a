use Rattle.std.proofs.Common.{◌≡◌, ◌∙◌, ◌+◌, ap, arith, refl, rules, subst, sym, Err, inl}
use Rattle.ink_step.proofs.Common.{log_of, story_tree, keeps_mark, pressed, stood_of, config_of}
use Rattle.ink_step.proofs.Runnings.{EndsRun, ran_none, ran_on, ran_out, ran_to_fault, ran_to_stop}
use Rattle.ink_effects.specs.Refusals.{RunStopsAtRefusal}
use Rattle.ink_effects.proofs.Refusals.{keeps_all, keeps_then, run_stops}
use Rattle.ink_step.proofs.Owned.{own_fewer, own_more, own_same}
use Rattle.ink_step.proofs.machine.Machine.run.Goals as goal

pub loop-step-init : goal.loop-step-init
loop-step-init g c =
    let s = story_tree c.args.story.now in
    record { ran = ran_none g.T.TurnFn.log (log_of g.W.Watcher.state) g.P.PureFn.meaning s c.args.desk.now (config_of s c.args.self.now); watchers = refl; refusals = keeps_all g.T.TurnFn.refusals c.args.desk.now; start = refl; own = own_same 0 _ _ refl; aside = refl; mark = refl }

pub loop-step-preserved : goal.loop-step-preserved
loop-step-preserved g c =
    let s = story_tree c.args.story.now in
    record {
      ran = ran_on g.T.TurnFn.log (log_of g.W.Watcher.state) g.P.PureFn.meaning s c.args.desk.now (config_of s c.args.self.now) c.loop-step._step _ _ _ (ap keeps_mark c.loop-step.invariant.mark) c.loop-step.desk c.forward.new.desk
          (config_of s c.loop-step.self) (config_of s c.forward.new.self) c.loop-step.invariant.ran _ c.if-not-branch.false c.in_ok-forward.ensures.step;
      watchers = c.in_ok-forward.ensures.watchers ∙ c.loop-step.invariant.watchers;
      refusals = keeps_then g.T.TurnFn.refusals c.args.desk.now c.loop-step.desk c.forward.new.desk c.loop-step.invariant.refusals c.in_ok-forward.ensures.refusals;
      start = c.in_ok-forward.ensures.start ∙ c.loop-step.invariant.start;
      own = own_more c.loop-step.invariant.own c.in_ok-forward.ensures.own;
      aside = c.in_ok-forward.ensures.aside ∙ c.loop-step.invariant.aside;
      mark = c.in_ok-forward.ensures.mark ∙ c.loop-step.invariant.mark;
    }

pub returns-then-not-branch-clause-runs : goal.returns-then-not-branch-clause-runs
returns-then-not-branch-clause-runs g c =
    let s = story_tree c.args.story.now in
    ran_to_stop g.T.TurnFn.log (log_of g.W.Watcher.state) g.P.PureFn.meaning s c.args.desk.now (config_of s c.args.self.now) c.loop-step._step _ _ _ (ap keeps_mark c.loop-step.invariant.mark) c.loop-step.desk c.forward.new.desk
    (config_of s c.loop-step.self) (config_of s c.forward.new.self) c.loop-step.invariant.ran _ (omega arith) c.if-not-branch.true c.in_ok-forward.ensures.step (keeps_mark (stood_of c.args.self.now)) (pressed s c.forward.new.self)

pub returns-then-not-branch-clause-watchers : goal.returns-then-not-branch-clause-watchers
returns-then-not-branch-clause-watchers g c = c.in_ok-forward.ensures.watchers ∙ c.loop-step.invariant.watchers

pub returns-then-not-branch-clause-start : goal.returns-then-not-branch-clause-start
returns-then-not-branch-clause-start g c = c.in_ok-forward.ensures.start ∙ c.loop-step.invariant.start

pub returns-in_err-forward-clause-runs : goal.returns-in_err-forward-clause-runs
returns-in_err-forward-clause-runs g c =
    let s = story_tree c.args.story.now in
    let is : c.from_residual.result ≡ Err c.in_err-forward.field-0.0 = search rules in
    subst (λ r. EndsRun g.T.TurnFn.log (log_of g.W.Watcher.state) g.P.PureFn.meaning s c.args.desk.now (config_of s c.args.self.now) (keeps_mark (stood_of c.args.self.now)) (pressed s c.forward.new.self) c.forward.new.desk (config_of s c.forward.new.self) r) (sym is)
    (ran_to_fault g.T.TurnFn.log (log_of g.W.Watcher.state) g.P.PureFn.meaning s c.args.desk.now (config_of s c.args.self.now) c.loop-step._step _ _ _ (ap keeps_mark c.loop-step.invariant.mark) c.loop-step.desk c.forward.new.desk
    (config_of s c.loop-step.self) (config_of s c.forward.new.self) c.loop-step.invariant.ran _ (omega arith) c.in_err-forward.ensures.step)

pub returns-in_err-forward-clause-watchers : goal.returns-in_err-forward-clause-watchers
returns-in_err-forward-clause-watchers g c = c.in_err-forward.ensures.watchers ∙ c.loop-step.invariant.watchers

pub returns-in_err-forward-clause-start : goal.returns-in_err-forward-clause-start
returns-in_err-forward-clause-start g c = c.in_err-forward.ensures.start ∙ c.loop-step.invariant.start

pub returns-clause-runs : goal.returns-clause-runs
returns-clause-runs g c =
    let s = story_tree c.args.story.now in
    ran_out g.T.TurnFn.log (log_of g.W.Watcher.state) g.P.PureFn.meaning s c.args.desk.now (config_of s c.args.self.now) (keeps_mark (stood_of c.args.self.now)) (pressed s c.loop-step.self) c.loop-step._step c.loop-step.desk (config_of s c.loop-step.self) (omega arith) c.loop-step.invariant.ran

pub returns-clause-watchers : goal.returns-clause-watchers
returns-clause-watchers g c = c.loop-step.invariant.watchers

pub returns-clause-start : goal.returns-clause-start
returns-clause-start g c = c.loop-step.invariant.start

pub returns-then-not-branch-clause-mark : goal.returns-then-not-branch-clause-mark
returns-then-not-branch-clause-mark g c = c.in_ok-forward.ensures.mark ∙ c.loop-step.invariant.mark

pub returns-in_err-forward-clause-mark : goal.returns-in_err-forward-clause-mark
returns-in_err-forward-clause-mark g c = c.in_err-forward.ensures.mark ∙ c.loop-step.invariant.mark

pub returns-clause-mark : goal.returns-clause-mark
returns-clause-mark g c = c.loop-step.invariant.mark

pub returns-then-not-branch-clause-refusals : goal.returns-then-not-branch-clause-refusals
returns-then-not-branch-clause-refusals g c = keeps_then g.T.TurnFn.refusals c.args.desk.now c.loop-step.desk c.forward.new.desk c.loop-step.invariant.refusals c.in_ok-forward.ensures.refusals

pub returns-in_err-forward-clause-refusals : goal.returns-in_err-forward-clause-refusals
returns-in_err-forward-clause-refusals g c =
    let is : c.from_residual.result ≡ Err c.in_err-forward.field-0.0 = search rules in
    subst (RunStopsAtRefusal g.T.TurnFn.refusals c.args.desk.now c.forward.new.desk) (sym is)
    (run_stops g.T.TurnFn.refusals c.args.desk.now c.loop-step.desk c.forward.new.desk c.in_err-forward.field-0.0 c.loop-step.invariant.refusals c.in_err-forward.ensures.refusals)

pub returns-clause-refusals : goal.returns-clause-refusals
returns-clause-refusals g c = inl c.loop-step.invariant.refusals

pub returns-then-not-branch-clause-aside : goal.returns-then-not-branch-clause-aside
returns-then-not-branch-clause-aside g c = c.in_ok-forward.ensures.aside ∙ c.loop-step.invariant.aside

-- ---- the own fields

pub returns-then-not-branch-clause-own : goal.returns-then-not-branch-clause-own
returns-then-not-branch-clause-own g c = own_fewer (c.loop-step._step + 1) _ _ _ (omega arith) (own_more c.loop-step.invariant.own c.in_ok-forward.ensures.own)

pub returns-in_err-forward-clause-own : goal.returns-in_err-forward-clause-own
returns-in_err-forward-clause-own g c = own_fewer (c.loop-step._step + 1) _ _ _ (omega arith) (own_more c.loop-step.invariant.own c.in_err-forward.ensures.own)

pub returns-clause-own : goal.returns-clause-own
returns-clause-own g c = own_fewer c.loop-step._step _ _ _ (omega arith) c.loop-step.invariant.own
