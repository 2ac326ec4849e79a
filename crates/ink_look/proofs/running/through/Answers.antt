use Rattle.std.proofs.Common.{◌≡◌, ◌∙◌, ap, false, rules, subst, sym, Err, inl}
use Rattle.ink_look.proofs.Common.{story_tree, bound_by, said, said_asks, OutOfMemory, RunStopsAtRefusal}
use Rattle.ink_look.proofs.Comes.{comes_to, comes_to_fault, falls_after}
use Rattle.ink_look.proofs.running.through.Goals as goal
use Rattle.ink_look.specs.Extents.{RunsBy}
use Rattle.ink_look.specs.declared.passages.Extent.TheVariants.{Stop}
use Rattle.ink_step.specs.Marks.{Stood, keeps_mark, pressed, stood_of}
use Rattle.ink_step.proofs.Marks.{not_pressed}
use Rattle.ink_step.specs.Runs.{RunFalls}
use Rattle.ink_step.specs.Standing.{config_of, start_of, aside_in}

pub returns-in_err-run-clause-runs : goal.returns-in_err-run-clause-runs
returns-in_err-run-clause-runs g c =
    let s = story_tree c.args.story.now in
    let b = bound_by g.P.PureFn.meaning c.args.desk.now.functions in
    let old = config_of s c.args.machine.now in
    let new = config_of s c.run.new.self in
    let ran = c.in_err-run.ensures.runs in
    let is : c.from_residual.result ≡ Err c.in_err-run.field-0.0 = search rules in (
      ran.0,
      ran.1,
      subst (RunsBy said said_asks Stop s b old ran.0 new) (sym is)
          (comes_to_fault s b ran.0 old (config_of s c.begin.new.self) (c.begin.ensures.begun s) new c.in_err-run.field-0.0
          (subst (λ pressed. RunFalls s b false pressed (config_of s c.begin.new.self) ran.0 new.shared.globals c.in_err-run.field-0.0) (not_pressed s c.run.new.self (c.in_err-run.ensures.mark ∙ c.begin.ensures.mark))
          (subst (λ (t : Stood). RunFalls s b (keeps_mark t) (pressed s c.run.new.self) (config_of s c.begin.new.self) ran.0 new.shared.globals c.in_err-run.field-0.0) c.begin.ensures.mark ran.2))),
    )

pub returns-in_err-said-clause-runs : goal.returns-in_err-said-clause-runs
returns-in_err-said-clause-runs g c =
    let s = story_tree c.args.story.now in
    let b = bound_by g.P.PureFn.meaning c.args.desk.now.functions in
    let old = config_of s c.args.machine.now in
    let new = config_of s c.run.new.self in
    let ran = c.in_ok-run.ensures.runs in
    let is : c.from_residual-in_err-said.result ≡ Err OutOfMemory = search rules in (
      ran.0,
      ran.1,
      rw c.said_by.ensures.same
          (subst (RunsBy said said_asks Stop s b old ran.0 new) (sym is) (falls_after s b ran.0 old (config_of s c.begin.new.self) (c.begin.ensures.begun s) new ran.2 (c.in_err-said.ensures.memory s))),
    )

pub returns-clause-runs : goal.returns-clause-runs
returns-clause-runs g c =
    let s = story_tree c.args.story.now in
    let b = bound_by g.P.PureFn.meaning c.args.desk.now.functions in
    let ran = c.in_ok-run.ensures.runs in (
      ran.0,
      ran.1,
      comes_to s b ran.0 (config_of s c.args.machine.now) (config_of s c.begin.new.self) (c.begin.ensures.begun s) (config_of s c.run.new.self) (config_of s c.settle.new.self) _
          ran.2 (c.in_ok-said.ensures.said s) (rw c.said_by.ensures.same at c.settle.ensures.settled s),
    )

-- changes are counted from the beginning
pub returns-in_err-run-clause-start : goal.returns-in_err-run-clause-start
returns-in_err-run-clause-start g c = c.in_err-run.ensures.start ∙ c.begin.ensures.start

pub returns-in_err-said-clause-start : goal.returns-in_err-said-clause-start
returns-in_err-said-clause-start g c = ap start_of c.said_by.ensures.same ∙ c.in_ok-run.ensures.start ∙ c.begin.ensures.start

pub returns-clause-start : goal.returns-clause-start
returns-clause-start g c = c.settle.ensures.start ∙ ap start_of c.said_by.ensures.same ∙ c.in_ok-run.ensures.start ∙ c.begin.ensures.start

-- no mark stands
pub returns-in_err-run-clause-mark : goal.returns-in_err-run-clause-mark
returns-in_err-run-clause-mark g c = c.in_err-run.ensures.mark ∙ c.begin.ensures.mark

pub returns-in_err-said-clause-mark : goal.returns-in_err-said-clause-mark
returns-in_err-said-clause-mark g c = ap stood_of c.said_by.ensures.same ∙ c.in_ok-run.ensures.mark ∙ c.begin.ensures.mark

-- a turn function that was refused memory ended the run
pub returns-in_err-run-clause-refusals : goal.returns-in_err-run-clause-refusals
returns-in_err-run-clause-refusals g c =
    let is : c.from_residual.result ≡ Err c.in_err-run.field-0.0 = search rules in
    subst (RunStopsAtRefusal g.F.TurnFn.refusals c.args.desk.now c.run.new.desk) (sym is) c.in_err-run.ensures.refusals

pub returns-in_err-said-clause-refusals : goal.returns-in_err-said-clause-refusals
returns-in_err-said-clause-refusals g c =
    let is : c.from_residual-in_err-said.result ≡ Err OutOfMemory = search rules in
    subst (RunStopsAtRefusal g.F.TurnFn.refusals c.args.desk.now c.run.new.desk) (sym is) (inl c.in_ok-run.ensures.refusals)

pub settle-requires : goal.settle-requires
settle-requires g c = record { unmarked = ap stood_of c.said_by.ensures.same ∙ c.in_ok-run.ensures.mark ∙ c.begin.ensures.mark }

pub returns-clause-aside : goal.returns-clause-aside
returns-clause-aside g c = c.settle.ensures.aside ∙ ap aside_in c.said_by.ensures.same ∙ c.in_ok-run.ensures.aside ∙ c.begin.ensures.aside

pub returns-in_err-said-clause-aside : goal.returns-in_err-said-clause-aside
returns-in_err-said-clause-aside g c = ap aside_in c.said_by.ensures.same ∙ c.in_ok-run.ensures.aside ∙ c.begin.ensures.aside

pub returns-clause-refusals : goal.returns-clause-refusals
returns-clause-refusals g c = c.in_ok-run.ensures.refusals
