use Rattle.std.proofs.Common.{◌∙◌, [], ap, false, Some, sym}
use Rattle.ink_host.proofs.Entries.{there}
use Rattle.ink_effects.proofs.Common.{story_tree, grew-none, log_of, fields}
use Rattle.ink_effects.proofs.Asking.{none_called, pure_called, turn_called}
use Rattle.ink_effects.proofs.Externals.{pure_there}
use Rattle.ink_effects.proofs.Refusals.{keeps_all, stops_kept}
use Rattle.ink_effects.proofs.host.call_bound.Goals as goal

pub returns-in_default-clause-call : goal.returns-in_default-clause-call
returns-in_default-clause-call g c evaluating fresh globals =
    let call = c.args.call.now in
    let desk = c.args.desk.now in
    let f = fields evaluating fresh c.args.stack.now.items c.args.output.now.page globals in (
      [],
      grew-none g.T.TurnFn.log (log_of g.W.Watcher.state) desk,
      none_called g.P.PureFn.meaning desk.functions (story_tree c.args.story.now) call.name.now call.arguments false f desk.next _ _ c.in_default.ensures.kind (c.fall_back.ensures f),
    )

pub returns-in-Turn-clause-call : goal.returns-in-Turn-clause-call
returns-in-Turn-clause-call g c evaluating fresh globals =
    let s = story_tree c.args.story.now in
    let call = c.args.call.now in
    let desk = c.args.desk.now in
    let made = c.call_turn.ensures.call s evaluating fresh globals in (
      made.0,
      made.1,
      turn_called g.P.PureFn.meaning desk.functions s call.name.now call.arguments false _ desk.next _ _ (ap (λ k. Some k) (sym c.in-Turn.is) ∙ c.in-Some.ensures.kind) made.0 made.2,
    )

pub ask_pure-requires-clause-bound : goal.ask_pure-requires-clause-bound
ask_pure-requires-clause-bound g c =
    let name = c.args.call.now.name.now in
    let functions = c.args.desk.now.functions in
    let p = pure_there g.P.PureFn.meaning name functions (ap (λ k. Some k) (sym c.in-Pure.is) ∙ c.in-Some.ensures.kind) in
    (p.0, there name c.in-Some.found.place functions c.in-Some.ensures.place ∙ p.1)

pub returns-in-Pure-clause-call : goal.returns-in-Pure-clause-call
returns-in-Pure-clause-call g c evaluating fresh globals =
    let s = story_tree c.args.story.now in
    let call = c.args.call.now in
    let desk = c.args.desk.now in
    let p = pure_there g.P.PureFn.meaning call.name.now desk.functions (ap (λ k. Some k) (sym c.in-Pure.is) ∙ c.in-Some.ensures.kind) in (
      [],
      grew-none g.T.TurnFn.log (log_of g.W.Watcher.state) desk,
      pure_called g.P.PureFn.meaning desk.functions s call.name.now call.arguments false _ desk.next _ _ p.0 p.1 (c.ask_pure.ensures.effect p.0 (there call.name.now c.in-Some.found.place desk.functions c.in-Some.ensures.place ∙ p.1) s evaluating fresh c.args.output.now.page globals),
    )

-- what is asked, or not bound, is not called
pub returns-in_default-clause-refusals : goal.returns-in_default-clause-refusals
returns-in_default-clause-refusals g c = stops_kept g.T.TurnFn.refusals c.args.desk.now c.args.desk.now c.fall_back.result (keeps_all g.T.TurnFn.refusals c.args.desk.now)

pub returns-in-Pure-clause-refusals : goal.returns-in-Pure-clause-refusals
returns-in-Pure-clause-refusals g c = stops_kept g.T.TurnFn.refusals c.args.desk.now c.args.desk.now c.ask_pure.result (keeps_all g.T.TurnFn.refusals c.args.desk.now)
