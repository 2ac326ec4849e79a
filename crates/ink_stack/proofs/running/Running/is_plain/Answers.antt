use Rattle.std.proofs.Common.{◌∙◌, sym}
use Rattle.std.proofs.lemmas.Bool.{OnTrue_from}
use Rattle.ink_stack.proofs.Plain.{plain_is}
use Rattle.ink_stack.proofs.running.Running.is_plain.Goals as goal

pub returns-then-len-eq0 : goal.returns-then-len-eq0
returns-then-len-eq0 g c =
    rw (← c.self.view_is)
    (OnTrue_from c.is_bare.result _ (λ bare. plain_is c.self.inside.frame c.self.inside.below.items c.self.inside.previous c.len.result c.len.ensures c.if-len-eq0.true (sym c.is_bare.ensures ∙ bare)))
