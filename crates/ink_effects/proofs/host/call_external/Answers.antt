use Rattle.std.proofs.Common.{◌≤◌, [], None, arith, false, length, inl}
use Rattle.ink_effects.proofs.Common.{story_tree, grew-none, log_of, fields}
use Rattle.ink_host.specs.Desk.{bound_by}
use Rattle.ink_effects.proofs.Externals.{condition_below, where_fault, where_unwanted, where_wanted}
use Rattle.ink_effects.proofs.Refusals.{keeps_all}
use Rattle.ink_effects.proofs.host.call_external.Goals as goal

pub call_bound-requires : goal.call_bound-requires
call_bound-requires g c =
    let old = fields false None c.args.stack.now.items c.args.output.now.page [] in
    let new = fields false None c.is_wanted.new.stack.items c.args.output.now.page [] in
    let fewer : length c.is_wanted.new.stack.items ≤ length c.args.stack.now.items = condition_below c.args.call.now.conditional c.in-Ok-true.field-0 old new (c.in-Ok-true.ensures.wanted false None c.args.output.now.page []) in
    record { room = omega arith }

pub returns-in-Ok-true-clause-call : goal.returns-in-Ok-true-clause-call
returns-in-Ok-true-clause-call g c evaluating fresh globals =
    let s = story_tree c.args.story.now in
    let call = c.args.call.now in
    let desk = c.args.desk.now in
    let page = c.args.output.now.page in
    let o = bound_by g.P.PureFn.meaning desk.functions call.name.now in
    let new = fields evaluating fresh c.is_wanted.new.stack.items page globals in
    let last = fields evaluating fresh c.call_bound.new.stack.items page globals in
    let made = c.call_bound.ensures.call evaluating fresh globals in (
      made.0,
      made.1,
      where_wanted s desk.next o call.name.now call.arguments _ c.in-Ok-true.field-0 new c.in-Ok-true.field-0-test (c.in-Ok-true.ensures.wanted evaluating fresh page globals) made.0 last c.call_bound.result
          made.2,
    )

pub returns-in-Ok-false-clause-call : goal.returns-in-Ok-false-clause-call
returns-in-Ok-false-clause-call g c evaluating fresh globals =
    let s = story_tree c.args.story.now in
    let call = c.args.call.now in
    let desk = c.args.desk.now in
    let page = c.args.output.now.page in
    let o = bound_by g.P.PureFn.meaning desk.functions call.name.now in
    let new = fields evaluating fresh c.is_wanted.new.stack.items page globals in (
      [],
      grew-none g.T.TurnFn.log (log_of g.W.Watcher.state) desk,
      where_unwanted s desk.next o call.name.now call.arguments _ c.in-Ok-false.field-0 new c.in-Ok-false.field-0-test (c.in-Ok-false.ensures.wanted evaluating fresh page globals),
    )

pub returns-in-Err-clause-call : goal.returns-in-Err-clause-call
returns-in-Err-clause-call g c evaluating fresh globals =
    let s = story_tree c.args.story.now in
    let call = c.args.call.now in
    let desk = c.args.desk.now in
    let page = c.args.output.now.page in
    let o = bound_by g.P.PureFn.meaning desk.functions call.name.now in
    let new = fields evaluating fresh c.is_wanted.new.stack.items page globals in (
      [],
      grew-none g.T.TurnFn.log (log_of g.W.Watcher.state) desk,
      where_fault s desk.next o call.name.now call.arguments _ c.in-Err.fault new (c.in-Err.ensures.wanted evaluating fresh page globals),
    )

-- nothing is called without a condition that is true
pub returns-in-Ok-false-clause-refusals : goal.returns-in-Ok-false-clause-refusals
returns-in-Ok-false-clause-refusals g c = keeps_all g.T.TurnFn.refusals c.args.desk.now

pub returns-in-Err-clause-refusals : goal.returns-in-Err-clause-refusals
returns-in-Err-clause-refusals g c = inl (keeps_all g.T.TurnFn.refusals c.args.desk.now)
