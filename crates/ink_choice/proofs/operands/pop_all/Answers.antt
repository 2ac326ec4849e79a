use Rattle.std.proofs.Common.{◌∙◌, ap, drop, reverse}
use Rattle.ink_choice.proofs.Depths.{popped}
use Rattle.ink_choice.proofs.operands.pop_all.Goals as goal

pub returns-clause-ok : goal.returns-clause-ok
returns-clause-ok c =
    c.pop_ready.ensures.items ∙ ap (λ vs. drop c.in_ok-there.there (reverse vs)) c.ready_to_pop.ensures.items ∙ c.in_ok-there.ensures.all

pub returns-clause-trail : goal.returns-clause-trail
returns-clause-trail c = popped _ _ _ _ _ _ _ c.ready_to_pop.ensures.items c.ready_to_pop.ensures.kept c.pop_ready.ensures.count c.pop_ready.ensures.trail
