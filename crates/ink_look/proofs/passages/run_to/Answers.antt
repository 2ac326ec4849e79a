use Rattle.std.proofs.Common.{◌≡◌, rules, subst, sym, Err, inl}
use Rattle.ink_look.proofs.Common.{story_tree, bound_by, OutOfMemory, RunStopsAtRefusal, config_of}
use Rattle.ink_model.specs.Protocol.Passage.{passage, passage_asks}
use Rattle.ink_look.specs.Extents.{RunsBy}
use Rattle.ink_look.proofs.Settling.{passes, passes_fault, passes_short}
use Rattle.ink_look.proofs.passages.run_to.Goals as goal

pub returns-in_err-said-clause-runs : goal.returns-in_err-said-clause-runs
returns-in_err-said-clause-runs g c =
    let s = story_tree c.args.story.now in
    let b = bound_by g.P.PureFn.meaning c.args.desk.now.functions in
    let old = config_of s c.args.machine.now in
    let new = config_of s c.say.new.machine in
    let ran = c.in_err-said.ensures.runs in
    let is : c.from_residual.result ≡ Err c.in_err-said.field-0.0 = search rules in
    (ran.0, ran.1, subst (RunsBy passage passage_asks c.args.extent s b old ran.0 new) (sym is) (passes_fault c.args.extent s b old ran.0 new _ ran.2))

pub returns-in_err-passage-clause-runs : goal.returns-in_err-passage-clause-runs
returns-in_err-passage-clause-runs g c =
    let s = story_tree c.args.story.now in
    let b = bound_by g.P.PureFn.meaning c.args.desk.now.functions in
    let old = config_of s c.args.machine.now in
    let new = config_of s c.say.new.machine in
    let ran = c.in_ok-said.ensures.runs in
    let is : c.from_residual-in_err-passage.result ≡ Err OutOfMemory = search rules in
    (ran.0, ran.1, subst (RunsBy passage passage_asks c.args.extent s b old ran.0 new) (sym is) (passes_short c.args.extent s b old ran.0 new _ ran.2 (c.in_err-passage.ensures.memory s)))

pub returns-clause-runs : goal.returns-clause-runs
returns-clause-runs g c =
    let s = story_tree c.args.story.now in
    let b = bound_by g.P.PureFn.meaning c.args.desk.now.functions in
    let ran = c.in_ok-said.ensures.runs in
    (ran.0, ran.1, passes c.args.extent s b (config_of s c.args.machine.now) ran.0 (config_of s c.say.new.machine) _ _ ran.2 (c.in_ok-passage.ensures.passage s))

-- what comes after the run calls nothing
pub returns-in_err-said-clause-refusals : goal.returns-in_err-said-clause-refusals
returns-in_err-said-clause-refusals g c =
    let is : c.from_residual.result ≡ Err c.in_err-said.field-0.0 = search rules in
    subst (RunStopsAtRefusal g.F.TurnFn.refusals c.args.desk.now c.say.new.desk) (sym is) c.in_err-said.ensures.refusals

pub returns-in_err-passage-clause-refusals : goal.returns-in_err-passage-clause-refusals
returns-in_err-passage-clause-refusals g c =
    let is : c.from_residual-in_err-passage.result ≡ Err OutOfMemory = search rules in
    subst (RunStopsAtRefusal g.F.TurnFn.refusals c.args.desk.now c.say.new.desk) (sym is) (inl c.in_ok-said.ensures.refusals)

pub returns-clause-refusals : goal.returns-clause-refusals
returns-clause-refusals g c = c.in_ok-said.ensures.refusals
