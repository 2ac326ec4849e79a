use Rattle.std.proofs.Common.{◌≡◌, ◌∙◌, ◌<◌, ◌⊎◌, ◌||◌, None, Some, ap, arith, not, refl, subst, sym, true, length}
use Rattle.ink_choice.specs.Undo.{choices_back, choices_spare}
use Rattle.ink_choice.specs.Outcomes.{FindsIndex}
use Rattle.ink_model.specs.Choices.Making.{none_visible, option_asks}
use Rattle.ink_trail.proofs.Undoing.{trails-kept}
use Rattle.ink_choice.proofs.Lists.{taken_at, took, took_none, took_nothing}
use Rattle.ink_choice.proofs.choices.Choices.take.Goals as goal

pub returns-in-Ok-clause-items : goal.returns-in-Ok-clause-items
returns-in-Ok-clause-items g c =
    let same : c.self.inside.items.items ≡ c.args.self.now.items = ap (λ s. s.items) c.self.view_is in
    took c.args.number c.in-Some.index c.args.self.now.items c.take_at.new.self.items c.in-Ok.choice c.none_visible-any.result
    (c.none_visible-any.ensures ∙ ap none_visible (c.as_slice.ensures.value ∙ same))
    (subst (λ cs. FindsIndex (λ x. c.none_visible-any.result || not x.hidden) c.args.number cs (Some c.in-Some.index)) (c.as_slice-2.ensures.value ∙ same) c.in-Some.ensures)
    c.in-Ok.ensures.choice c.in-Ok.ensures.items

pub returns-in-None-clause-items : goal.returns-in-None-clause-items
returns-in-None-clause-items g c =
    let same : c.self.inside.items.items ≡ c.args.self.now.items = ap (λ s. s.items) c.self.view_is in
    took_none c.args.number c.args.self.now.items c.none_visible-any.result
    (c.none_visible-any.ensures ∙ ap none_visible (c.as_slice.ensures.value ∙ same))
    (subst (λ cs. FindsIndex (λ x. c.none_visible-any.result || not x.hidden) c.args.number cs None) (c.as_slice-2.ensures.value ∙ same) c.in-None.ensures)

pub returns-in-Err-clause-items : goal.returns-in-Err-clause-items
returns-in-Err-clause-items g c =
    let same : c.self.inside.items.items ≡ c.args.self.now.items = ap (λ s. s.items) c.self.view_is in
    took_nothing c.args.number c.in-Some.index c.args.self.now.items c.take_at.new.self.items c.none_visible-any.result
    (c.none_visible-any.ensures ∙ ap none_visible (c.as_slice.ensures.value ∙ same))
    (subst (λ cs. FindsIndex (λ x. c.none_visible-any.result || not x.hidden) c.args.number cs (Some c.in-Some.index)) (c.as_slice-2.ensures.value ∙ same) c.in-Some.ensures)
    c.in-Err.ensures.trail.0

-- memory is asked for what is taken
pub returns-in-Err-clause-asks : goal.returns-in-Err-clause-asks
returns-in-Err-clause-asks g c =
    let same : c.self.inside.items.items ≡ c.args.self.now.items = ap (λ s. s.items) c.self.view_is in
    subst (λ o. (choices_spare c.args.self.now < 1) ⊎ (option_asks o ≡ true))
    (sym (taken_at c.args.number c.in-Some.index c.args.self.now.items c.none_visible-any.result
    (c.none_visible-any.ensures ∙ ap none_visible (c.as_slice.ensures.value ∙ same))
    (subst (λ cs. FindsIndex (λ x. c.none_visible-any.result || not x.hidden) c.args.number cs (Some c.in-Some.index)) (c.as_slice-2.ensures.value ∙ same) c.in-Some.ensures)))
    c.in-Err.ensures.asks

pub returns-in-None-clause-trail : goal.returns-in-None-clause-trail
returns-in-None-clause-trail g c = rw (← c.self.view_is) (trails-kept choices_back 1 _ _ _ _ refl (refl, omega arith))

pub take_at-requires : goal.take_at-requires
take_at-requires g c = subst (λ cs. c.in-Some.index < length cs) (c.as_slice-2.ensures.value ∙ ap (λ s. s.items) c.self.view_is) c.in-Some.ensures.0
