use Rattle.std.proofs.Common.{◌&&◌, ◌≡◌, Bool, List, Result, ap, false, of_z, rules, subst, sym, to_z, to_z-of_z, w32}
use Rattle.ink_effects.proofs.Common.{story_tree, Effect, Fields, ThreadsOf, Page, StoryTree, Leaf, Performs, Fault, Value, Transfer, fields, has_room, moving, Spot}
use Rattle.ink_model.specs.Flow.Frames.{mode_in, on_top}
use Rattle.ink_model.specs.Memory.Asks.{may_open}
use Rattle.ink_model.specs.Run.Step.Evaluation.{begin_eval, end_eval}
use Rattle.ink_model.specs.Run.Step.Text.{begin_string, end_string, in_string}
use Rattle.ink_effects.specs.Flows.{fields_of_flow, leaf_asks_in, leaf_effect_in}
use Rattle.ink_effects.specs.Frequents.{leaf_of}
use Rattle.ink_effects.specs.Performs.{fields_in}
use Rattle.ink_effects.specs.Standing.{rest_in}
use Rattle.ink_effects.proofs.frequent.perform_frequent.Goals as goal
use Rattle.ink_effects.proofs.frequent.perform_frequent.Goals.{Start}

module _ (c : Start) where
  abbrev tree : StoryTree
  tree = story_tree c.args.story.now

  abbrev old : Fields
  old = fields_of_flow c.args.flow.now c.args.output.now.page c.args.shared.now.globals.rows

  -- content that is known does this
  abbrev Does : Leaf → Fields → Result Transfer Fault → Type 0
  Does l new r =
      let page = c.args.output.now.page in
      Performs tree (leaf_asks_in tree c.args.here l c.args.flow.now page c.args.shared.now) (leaf_effect_in tree c.args.here l c.args.flow.now page c.args.shared.now) new r

  does : (l k : Leaf) (new : Fields) (r : Result Transfer Fault) → l ≡ k → Does k new r → Does l new r
  does l k new r is h = subst (λ x. Does x new r) (sym is) h

  set_after : (asks : Bool) (e : Effect) (evaluating : Bool) (set : ThreadsOf Spot) (stack : List Value) (page : Page) (r : Result Transfer Fault) → set ≡ on_top (mode_in evaluating) c.args.flow.now.threads.threads
      → Performs tree asks e (fields evaluating old.fresh stack page old.globals) r → Performs tree asks e (fields_in set.thread.frame stack page old.globals) r
  set_after asks e evaluating set stack page r is h = subst (λ ts. Performs tree asks e (fields_in ts.thread.frame stack page old.globals) r) (sym is) h

pub returns-in-Newline-clause-effect : goal.returns-in-Newline-clause-effect
returns-in-Newline-clause-effect c =
    let w = (goal.at.returns-in-Newline-clause-effect c).Start in
    does w _ _ _ _ (ap leaf_of c.in-Newline.is) (rw (c.is_evaluating-evaluating.ensures, c.fresh_depth.ensures) at (c.write_newline.ensures.effect (old w).globals (tree w)))

pub returns-in-Int-clause-effect : goal.returns-in-Int-clause-effect
returns-in-Int-clause-effect c =
    let w = (goal.at.returns-in-Int-clause-effect c).Start in
    let is : to_z w32 (of_z w32 c.in-Int.number) ≡ c.in-Int.number = search (rules, to_z-of_z) in
    does w _ _ _ _ (ap leaf_of c.in-Int.is) (rw (is, c.is_evaluating-evaluating.ensures) at (c.push_value.ensures.effect (old w).fresh (old w).page (old w).globals (tree w)))

pub returns-in-Void-clause-effect : goal.returns-in-Void-clause-effect
returns-in-Void-clause-effect c =
    let w = (goal.at.returns-in-Void-clause-effect c).Start in
    does w _ _ _ _ (ap leaf_of c.in-Void.is) (rw c.is_evaluating-evaluating.ensures at (c.push_value-in-Void.ensures.effect (old w).fresh (old w).page (old w).globals (tree w)))

pub returns-in-Op-clause-effect : goal.returns-in-Op-clause-effect
returns-in-Op-clause-effect c =
    let w = (goal.at.returns-in-Op-clause-effect c).Start in
    does w _ _ _ _ (ap leaf_of c.in-Op.is) (c.operate.ensures.effect (old w).evaluating (old w).fresh (old w).page (old w).globals (tree w))

pub returns-in-Variable-clause-effect : goal.returns-in-Variable-clause-effect
returns-in-Variable-clause-effect c =
    let w = (goal.at.returns-in-Variable-clause-effect c).Start in
    does w _ _ _ _ (ap leaf_of c.in-Variable.is) (c.push_variable.ensures.effect (tree w) (rest_in c.args.flow.now.choices.items c.args.shared.now) _ _ (old w).page (tree w))

pub returns-in-Pop-clause-effect : goal.returns-in-Pop-clause-effect
returns-in-Pop-clause-effect c =
    let w = (goal.at.returns-in-Pop-clause-effect c).Start in
    does w _ _ _ _ (ap leaf_of c.in-Pop.is) (c.pop.ensures.effect (old w).evaluating (old w).fresh (old w).page (old w).globals (tree w))

pub returns-in-BeginTag-clause-effect : goal.returns-in-BeginTag-clause-effect
returns-in-BeginTag-clause-effect c =
    let w = (goal.at.returns-in-BeginTag-clause-effect c).Start in
    does w _ _ _ _ (ap leaf_of c.in-BeginTag.is) (c.begin_tag.ensures.effect (old w).evaluating (old w).fresh (old w).globals (tree w))

pub returns-in-EndTag-clause-effect : goal.returns-in-EndTag-clause-effect
returns-in-EndTag-clause-effect c =
    let w = (goal.at.returns-in-EndTag-clause-effect c).Start in
    does w _ _ _ _ (ap leaf_of c.in-EndTag.is) (c.end_tag.ensures.effect (old w).evaluating (old w).fresh (old w).globals (tree w))

-- ---- what changes the mode, which is set after it

pub returns-in-BeginEval-clause-effect : goal.returns-in-BeginEval-clause-effect
returns-in-BeginEval-clause-effect c =
    let w = (goal.at.returns-in-BeginEval-clause-effect c).Start in
    let f = old w in
    let begins = rw c.is_evaluating-evaluating.ensures at (c.begin_eval-outcome.ensures f.fresh f.stack f.page f.globals (tree w)) in
    does w _ _ _ _ (ap leaf_of c.in-BeginEval.is) (set_after w false (begin_eval f) c.begin_eval-outcome.new.evaluating _ f.stack f.page (moving c.begin_eval-outcome.result) c.set_mode.ensures.threads begins)

pub returns-in-EndEval-clause-effect : goal.returns-in-EndEval-clause-effect
returns-in-EndEval-clause-effect c =
    let w = (goal.at.returns-in-EndEval-clause-effect c).Start in
    let f = old w in
    let ends = rw c.is_evaluating-evaluating.ensures at (c.end_eval-outcome.ensures f.fresh f.stack f.page f.globals (tree w)) in
    does w _ _ _ _ (ap leaf_of c.in-EndEval.is) (set_after w false (end_eval f) c.end_eval-outcome.new.evaluating _ f.stack f.page (moving c.end_eval-outcome.result) c.set_mode-in-EndEval.ensures.threads ends)

pub returns-in-BeginString-clause-effect : goal.returns-in-BeginString-clause-effect
returns-in-BeginString-clause-effect c =
    let w = (goal.at.returns-in-BeginString-clause-effect c).Start in
    let f = old w in
    let page = c.begin_string-outcome.new.output.page in
    let begins = rw c.is_evaluating-evaluating.ensures at (c.begin_string-outcome.ensures.effect f.fresh f.stack f.globals (tree w)) in
    does w _ _ _ _ (ap leaf_of c.in-BeginString.is)
    (set_after w (f.evaluating && may_open f.page.sections) (begin_string f) c.begin_string-outcome.new.evaluating _ f.stack page (moving c.begin_string-outcome.result) c.set_mode-in-BeginString.ensures.threads begins)

pub returns-in-EndString-clause-effect : goal.returns-in-EndString-clause-effect
returns-in-EndString-clause-effect c =
    let w = (goal.at.returns-in-EndString-clause-effect c).Start in
    let f = old w in
    let stack = c.end_string-outcome.new.stack.items in
    let page = c.end_string-outcome.new.output.page in
    let ends = c.end_string-outcome.ensures.effect f.fresh f.globals (tree w) in
    does w _ _ _ _ (ap leaf_of c.in-EndString.is)
    (set_after w (in_string f.page.sections && has_room f.stack) (end_string f) c.end_string-outcome.new.evaluating _ stack page (moving c.end_string-outcome.result) c.set_mode-in-EndString.ensures.threads ends)
