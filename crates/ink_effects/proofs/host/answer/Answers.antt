use Rattle.std.proofs.Common.{◌∙◌, subst, sym, Some}
use Rattle.ink_effects.proofs.Common.{given_asks, Performs, fields}
use Rattle.ink_model.specs.Run.Step.Host.{answering}
use Rattle.ink_effects.proofs.Puts.{answers_it}
use Rattle.ink_effects.proofs.host.answer.Goals as goal

pub returns-clause-effect : goal.returns-clause-effect
returns-clause-effect c s evaluating fresh page globals arguments left there =
    let g = c.args.given in
    let f = fields evaluating fresh left page globals in
    let new = c.put_over.new.stack.items in
    subst (λ r. Performs s (given_asks arguments f (Some g)) (answering (Some g) f) (fields evaluating fresh new page globals) r) (sym c.moving.ensures)
    (answers_it s arguments left new evaluating fresh page globals g c.value_given.result c.put_over.result c.value_given.ensures (sym c.fits.ensures ∙ c.if-not-fits.false)
    (c.put_over.ensures.stack arguments left there) (c.put_over.ensures.memory arguments left there))
