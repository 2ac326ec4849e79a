use Rattle.std.proofs.Common.{◌≡◌, ◌∙◌, ◌-◌, [], ◌∷◌, ◌++◌, ap, sym, take}
use Rattle.ink_trail.proofs.Ending.{but_last-take}
use Rattle.ink_trail.specs.Undo.{but_last}
use Rattle.ink_value.specs.Undo.{stack_back}
use Rattle.ink_value.proofs.undo.put_one_back.Goals as goal

pub returns-in-Pushed-clause-items : goal.returns-in-Pushed-clause-items
returns-in-Pushed-clause-items c =
    let old = c.args.items.now in
    c.drop_last.ensures.items ∙ ap (λ n. take (n - 1) old.items) old.ok.0 ∙ sym (but_last-take old.items) ∙ ap (λ p. stack_back p old.items) (sym c.in-Pushed.is)

pub returns-in-Replaced-clause-items : goal.returns-in-Replaced-clause-items
returns-in-Replaced-clause-items c =
    let old = c.args.items.now in
    let below : c.drop_last-in-Replaced.new.items.items ≡ but_last old.items = c.drop_last-in-Replaced.ensures.items ∙ ap (λ n. take (n - 1) old.items) old.ok.0 ∙ sym (but_last-take old.items) in
    c.push_reserved-in-Replaced.ensures.items ∙ ap (λ vs. vs ++ c.in-Replaced.value ∷ []) below ∙ ap (λ p. stack_back p old.items) (sym c.in-Replaced.is)
