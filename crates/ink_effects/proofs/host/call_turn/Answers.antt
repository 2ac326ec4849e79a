use Rattle.std.proofs.Common.{◌≡◌, ◌∙◌, ap, refl, rules, sym, Err, [], inl, Ok, Result}
use Rattle.ink_effects.proofs.Common.{grew-none, log_of, fields, Fault, Given}
use Rattle.ink_effects.proofs.Externals.{there, turn_failed, turn_gave, unlent_turn, unsafe_turn}
use Rattle.ink_effects.proofs.Refusals.{called_so, keeps_all, stops_kept}
use Rattle.ink_effects.proofs.host.call_turn.Goals as goal

pub returns-then-in_string-clause-call : goal.returns-then-in_string-clause-call
returns-then-in_string-clause-call g c s evaluating fresh globals =
    let call = c.args.call.now in
    let desk = c.args.desk.now in
    let f = fields evaluating fresh c.args.stack.now.items c.args.output.now.page globals in
    ([], grew-none g.T.TurnFn.log (log_of g.W.Watcher.state) desk, unsafe_turn s desk.next call.name.now call.arguments f (sym c.in_string.ensures ∙ c.if-in_string.true) f)

pub returns-in_err-arguments-clause-call : goal.returns-in_err-arguments-clause-call
returns-in_err-arguments-clause-call g c s evaluating fresh globals =
    let call = c.args.call.now in
    let desk = c.args.desk.now in
    let f = fields evaluating fresh c.args.stack.now.items c.args.output.now.page globals in
    let is : c.from_residual.result ≡ Err c.in_err-arguments.field-0.0 = search rules in (
      [],
      grew-none g.T.TurnFn.log (log_of g.W.Watcher.state) desk,
      rw is (unlent_turn s desk.next call.name.now call.arguments f (sym c.in_string.ensures ∙ c.if-in_string.false) _ c.in_err-arguments.ensures.err f),
    )

pub returns-in-Ok-clause-call : goal.returns-in-Ok-clause-call
returns-in-Ok-clause-call g c s evaluating fresh globals =
    let call = c.args.call.now in
    let page = c.args.output.now.page in
    let f = fields evaluating fresh c.args.stack.now.items page globals in
    let new = fields evaluating fresh c.answer.new.stack.items page globals in
    let safe = sym c.in_string.ensures ∙ c.if-in_string.false in
    turn_gave s call.name.now call.arguments f new safe c.in_ok-arguments.arguments.now c.in_ok-arguments.ensures.ok g.T.TurnFn.log (log_of g.W.Watcher.state) c.args.desk.now c.call_found.new.self c.in-Ok.given
    (c.in-Ok.ensures.answer c.in-Ok.given refl) c.answer.result
    (c.answer.ensures.effect s evaluating fresh page globals _ _ (there s call.name.now call.arguments f new safe c.in_ok-arguments.arguments.now c.in_ok-arguments.ensures.ok))

pub returns-in-Err-clause-call : goal.returns-in-Err-clause-call
returns-in-Err-clause-call g c s evaluating fresh globals =
    let call = c.args.call.now in
    let f = fields evaluating fresh c.args.stack.now.items c.args.output.now.page globals in
    turn_failed s call.name.now call.arguments f f (sym c.in_string.ensures ∙ c.if-in_string.false) c.in_ok-arguments.arguments.now c.in_ok-arguments.ensures.ok g.T.TurnFn.log (log_of g.W.Watcher.state) c.args.desk.now
    c.call_found.new.self c.in-Err.fault (λ is. c.in-Err.ensures.refused (ap Err is)) (λ is. c.in-Err.ensures.memory (ap Err is)) c.in-Err.ensures.faults

-- it is not called again
pub returns-then-in_string-clause-refusals : goal.returns-then-in_string-clause-refusals
returns-then-in_string-clause-refusals g c = inl (keeps_all g.T.TurnFn.refusals c.args.desk.now)

pub returns-in_err-arguments-clause-refusals : goal.returns-in_err-arguments-clause-refusals
returns-in_err-arguments-clause-refusals g c = stops_kept g.T.TurnFn.refusals c.args.desk.now c.args.desk.now _ (keeps_all g.T.TurnFn.refusals c.args.desk.now)

pub returns-in-Ok-clause-refusals : goal.returns-in-Ok-clause-refusals
returns-in-Ok-clause-refusals g c =
    stops_kept g.T.TurnFn.refusals c.args.desk.now c.call_found.new.self c.answer.result
    (called_so g.T.TurnFn.refusals c.args.call.now.name.now c.args.desk.now c.call_found.new.self c.call_found.ensures.others (Ok c.in-Ok.given) c.in-Ok.ensures.refusals)

pub returns-in-Err-clause-refusals : goal.returns-in-Err-clause-refusals
returns-in-Err-clause-refusals g c =
    let failed : Result Given Fault = Err c.in-Err.fault in
    called_so g.T.TurnFn.refusals c.args.call.now.name.now c.args.desk.now c.call_found.new.self c.call_found.ensures.others failed c.in-Err.ensures.refusals
