use Rattle.std.proofs.Common.{◌≡◌, refl, rules, sym, subst, Err, ◌∙◌, ap}
use Rattle.ink_step.proofs.Common.{story_tree, bound_by, fields_of, call_of, pressed, stood_of, StepMakes, config_of, stops_kept}
use Rattle.ink_model.specs.Memory.Asks.{calling_asks, external_asks}
use Rattle.ink_model.specs.Run.Step.{call_made}
use Rattle.ink_model.specs.Run.Step.Host.{call_external}
use Rattle.ink_step.proofs.Makes.{external_call, makes_broken, makes_ended}
use Rattle.ink_effects.proofs.Plain.{keeps_plain, offers_plain, stores_plain}
use Rattle.ink_effects.specs.Refusals.{StepStopsAtRefusal}
use Rattle.ink_step.proofs.Owned.{own_same}
use Rattle.ink_step.proofs.machine.Machine.act_external.Goals as goal

pub returns-in_err-transfer-clause-step : goal.returns-in_err-transfer-clause-step
returns-in_err-transfer-clause-step g c =
    let s = story_tree c.args.story.now in
    let desk = c.args.desk.now in
    let b = bound_by g.P.PureFn.meaning desk.functions in
    let before = config_of s c.args.self.now in
    let f = fields_of before in
    let k = call_of c.args.call.now in
    let e = call_external s b k.name k.arguments k.conditional f in
    let asking = external_asks (b k.name) k.arguments k.conditional f in
    let called = c.in_err-transfer.ensures.call f.evaluating f.fresh f.globals in
    let left = record c.args.self.now { flow = record c.args.self.now.flow { stack = c.call_external.new.stack } } in
    let d = config_of s left in
    let is : c.from_residual.result ≡ Err c.in_err-transfer.field-0.0 = search rules in (
      called.0,
      called.1,
      subst (λ r. StepMakes s b desk.next (pressed s left) (calling_asks s asking e before) (call_made s e before) called.0 before.shared.globals d r) (sym is)
          (makes_broken s b desk.next (pressed s left) asking before d _ before.shared.globals _ refl e called.0 (external_call b s k.name k.arguments k.conditional f) called.2),
    )

pub returns-clause-step : goal.returns-clause-step
returns-clause-step g c =
    let s = story_tree c.args.story.now in
    let old = c.args.self.now in
    let desk = c.args.desk.now in
    let b = bound_by g.P.PureFn.meaning desk.functions in
    let before = config_of s old in
    let f = fields_of before in
    let k = call_of c.args.call.now in
    let e = call_external s b k.name k.arguments k.conditional f in
    let asking = external_asks (b k.name) k.arguments k.conditional f in
    let called = c.in_ok-transfer.ensures.call f.evaluating f.fresh f.globals in (
      called.0,
      called.1,
      makes_ended s b desk.next (pressed s c.finish.new.self) asking before (config_of s c.finish.new.self) _ before.shared.globals _ c.finish.result
          (λ asks e plain performs. c.finish.ensures.ends old asks e performs (keeps_plain s e old.flow.threads.threads old.flow.threads.threads plain refl) (offers_plain s e old.flow.choices.items plain) refl refl refl refl (λ marked. stores_plain e asks plain))
          e called.0 (external_call b s k.name k.arguments k.conditional f) called.2,
    )

pub returns-in_err-transfer-clause-refusals : goal.returns-in_err-transfer-clause-refusals
returns-in_err-transfer-clause-refusals g c =
    let is : c.from_residual.result ≡ Err c.in_err-transfer.field-0.0 = search rules in
    subst (StepStopsAtRefusal g.T.TurnFn.refusals c.args.desk.now c.call_external.new.desk) (sym is) c.in_err-transfer.ensures.refusals

pub returns-clause-refusals : goal.returns-clause-refusals
returns-clause-refusals g c = stops_kept g.T.TurnFn.refusals c.args.desk.now c.call_external.new.desk c.finish.result c.in_ok-transfer.ensures.refusals

pub returns-clause-mark : goal.returns-clause-mark
returns-clause-mark g c = c.finish.ensures.mark ∙ ap (λ o. record (stood_of c.args.self.now) { stack = o }) c.in_ok-transfer.ensures.mark

-- ---- the own fields

pub returns-in_err-transfer-clause-own : goal.returns-in_err-transfer-clause-own
returns-in_err-transfer-clause-own g c = own_same 1 _ _ refl
