use Rattle.std.proofs.Common.{◌≡◌, ◌⊎◌, Bool, false, is_some, rules, subst, sym, true, Ok, Err, ap}
use Rattle.ink_step.proofs.Common.{stored, OutOfMemory, Performs, storing_in, StepEnds, stood_of, globals_stood}
use Rattle.ink_step.proofs.Stopping.{stored_short}
use Rattle.ink_step.proofs.machine.Machine.store.Goals as goal
use Rattle.ink_vars.specs.Outcomes.{name_of}

pub returns-in_err-put_named-in-Store-clause-stored : goal.returns-in_err-put_named-in-Store-clause-stored
returns-in_err-put_named-in-Store-clause-stored c s asks whole e f o allows same performs stores ends =
    let is : c.from_residual.result ≡ Err OutOfMemory = search rules in
    let storing = subst (λ t. Performs s asks e f (Ok t)) c.in-Store.is performs in
    let marked : Bool = is_some (globals_stood c.args.self.now.shared.globals) in
    let short = subst (λ vs. (is_some (stored (name_of c.in-Store.to.name) vs) ≡ false) ⊎ (marked ≡ true)) (sym same) c.in_err-put_named-in-Store.ensures.memory in
    subst (StepEnds whole (storing_in e o) c.args.self.now.shared.globals.rows _) (sym is)
    (stored_short s asks whole marked e f o _ c.args.self.now.shared.globals.rows _ allows storing stores short c.in_err-put_named-in-Store.ensures.err)

pub returns-in_ok-put_named-in-Store-clause-mark : goal.returns-in_ok-put_named-in-Store-clause-mark
returns-in_ok-put_named-in-Store-clause-mark c = ap (λ o. record (stood_of c.args.self.now) { globals = o }) c.put_named.ensures.stood
