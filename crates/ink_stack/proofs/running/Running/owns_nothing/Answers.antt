use Rattle.std.proofs.lemmas.Bool.{OnTrue_at, OnTrue_from}
use Rattle.ink_stack.proofs.Plain.{plain_of}
use Rattle.ink_stack.proofs.running.Running.owns_nothing.Goals as goal

pub returns-then-owns_nothing : goal.returns-then-owns_nothing
returns-then-owns_nothing g c =
    rw (← c.self.view_is)
    (OnTrue_from c.owns_nothing-then-owns_nothing.result _ (λ e. plain_of c.self.inside.frame c.self.inside.below.items c.self.inside.previous (OnTrue_at e c.owns_nothing-then-owns_nothing.ensures) (OnTrue_at c.if-owns_nothing.true c.owns_nothing.ensures)))
