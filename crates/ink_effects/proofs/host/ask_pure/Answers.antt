use Rattle.std.proofs.Common.{◌∙◌, ap, refl, sym}
use Rattle.ink_host.specs.Desk.{answer_of}
use Rattle.ink_effects.specs.Performs.{fields}
use Rattle.ink_effects.proofs.Externals.{pure_gave}
use Rattle.ink_effects.proofs.host.ask_pure.Goals as goal

pub returns-in-Ok-clause-effect : goal.returns-in-Ok-clause-effect
returns-in-Ok-clause-effect g c p is s evaluating fresh page globals =
    let vs = c.in_ok-arguments.arguments.now in
    let f = fields evaluating fresh c.args.stack.now.items page globals in
    let new = fields evaluating fresh c.answer.new.stack.items page globals in
    let gave = sym (ap (λ o. answer_of g.P.PureFn.meaning o vs) is) ∙ c.in-Ok.ensures.answer c.in-Ok.given refl in
    pure_gave s c.args.call.now.arguments f new vs c.in_ok-arguments.ensures.ok (g.P.PureFn.meaning p) c.in-Ok.given c.answer.result gave (λ left there. c.answer.ensures.effect s evaluating fresh page globals vs left there)
