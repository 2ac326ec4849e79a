use Rattle.std.proofs.Common.{◌∙◌, ap, arith, sym}
use Rattle.ink_model.specs.Run.Configuration.{unnumbered_choice}
use Rattle.ink_choice.proofs.Settling.{walked-all, walked-on}
use Rattle.ink_choice.proofs.choices.clear_numbers_of.Goals as goal

pub loop-choice-preserved : goal.loop-choice-preserved
loop-choice-preserved g c =
    let l = c.loop-choice in
    walked-on unnumbered_choice l.choice-items l.choice-index c.choice-item.result _ (omega (arith, c.loop-choice-test.true, l.auto.choice-items))
    (ap (λ t. record { text = c.choice.inside.text; tags = c.choice.inside.tags; target = c.choice.inside.target; hidden = c.choice.inside.hidden; thread = t }) c.clear_numbers.ensures ∙ ap unnumbered_choice c.choice.view_is)
    ∙ l.invariant

pub returns : goal.returns
returns g c = sym (walked-all unnumbered_choice c.loop-choice.choice-items c.loop-choice.choice-index (omega (arith, c.loop-choice-test.false, c.loop-choice.auto.choice-items))) ∙ c.loop-choice.invariant
