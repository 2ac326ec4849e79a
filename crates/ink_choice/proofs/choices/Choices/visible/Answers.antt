use Rattle.std.proofs.Common.{◌≢◌, ◌<◌, ◌∙◌, [], arith, length, sym, ◌≡◌, ap}
use Rattle.std.proofs.lemmas.Result.{err_from_is_err_and}
use Rattle.ink_model.specs.Choices.Making.{visible}
use Rattle.ink_choice.proofs.Lists.{shows_none, shows_one, some_shown, all_shown}
use Rattle.ink_choice.proofs.choices.Choices.visible.Goals.{then-is_visible+in_ok-shown_choice+in_ok-push, else-is_visible}
use Rattle.ink_choice.proofs.choices.Choices.visible.Goals as goal

pub returns-in_err-push-clause-memory : goal.returns-in_err-push-clause-memory
returns-in_err-push-clause-memory g c =
    let p = err_from_is_err_and c.from_residual-in_err-push.result c.from_residual-in_err-push.ensures.1 in
    let cs = c.deref-choice-items.result.now in
    let i = c.loop-choice.choice-index in
    let inside : i < length cs = omega arith in
    let some : visible cs ≢ [] = some_shown cs i c.choice-item.result inside c.choice-item.is (sym c.is_visible.ensures ∙ c.if-is_visible.true) in
    rw p.1 (rw (← c.self.view_is, ← c.deref-choice-items.ensures.value) some)

pub returns-in_err-shown_choice-clause-memory : goal.returns-in_err-shown_choice-clause-memory
returns-in_err-shown_choice-clause-memory g c =
    let p = err_from_is_err_and c.from_residual.result c.from_residual.ensures.1 in
    let cs = c.deref-choice-items.result.now in
    let i = c.loop-choice.choice-index in
    let inside : i < length cs = omega arith in
    let some : visible cs ≢ [] = some_shown cs i c.choice-item.result inside c.choice-item.is (sym c.is_visible.ensures ∙ c.if-is_visible.true) in
    rw p.1 (rw (← c.self.view_is, ← c.deref-choice-items.ensures.value) some)

pub loop-choice-preserved : goal.loop-choice-preserved
loop-choice-preserved g c =
    let cs = c.deref-choice-items.result.now in
    let i = c.loop-choice.choice-index in
    let x = c.choice-item.result in
    let inside : i < length cs = omega arith in
    elim c.if-is_visible.branch [
      | then-is_visible+in_ok-shown_choice+in_ok-push w ↦
          rw (w.shown-is, w.in_ok-push.ensures.items)
          (shows_one cs i x inside c.choice-item.is c.loop-choice.shown.items _ w.in_ok-shown_choice.field-0 (sym c.is_visible.ensures ∙ w.if-is_visible.true) w.in_ok-shown_choice.ensures c.loop-choice.invariant)
      | else-is_visible w ↦
          rw w.shown-is (shows_none cs i x inside c.choice-item.is c.loop-choice.shown.items _ (sym c.is_visible.ensures ∙ w.if-is_visible.false) c.loop-choice.invariant)
    ]

pub returns-clause-shown : goal.returns-clause-shown
returns-clause-shown g c =
    let seen = c.deref-choice-items.result.now in
    let same : seen ≡ c.args.self.now.items = c.deref-choice-items.ensures.value ∙ ap (λ s. s.items) c.self.view_is in
    c.from_vec.ensures ∙ all_shown c.loop-choice.shown.items seen c.args.self.now.items c.loop-choice.choice-index c.loop-choice.invariant c.loop-choice-test.false same
