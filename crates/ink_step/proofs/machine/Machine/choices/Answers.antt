use Rattle.std.proofs.Common.{◌≡◌, ◌≢◌, IfOk, [], subst}
use Rattle.ink_step.proofs.Shows.{open_shown, some_shown, when_err}
use Rattle.ink_step.proofs.machine.Machine.choices.Goals as goal

pub returns-clause-choices : goal.returns-clause-choices
returns-clause-choices c s = subst (λ shown. IfOk c.visible.result (λ r. r ≡ shown)) (open_shown s c.args.self.now (c.if-can_go_on.ensures s)) c.visible.ensures.shown

pub returns-clause-memory : goal.returns-clause-memory
returns-clause-memory c s =
    when_err c.visible.result _ _ (λ some. subst (λ shown. shown ≢ []) (open_shown s c.args.self.now (c.if-can_go_on.ensures s)) (some_shown c.args.self.now.flow.choices.items some)) c.visible.ensures.memory
