use Rattle.std.proofs.Common.{◌∙◌, ap, is_some, refl, sym}
use Rattle.ink_trail.proofs.Undoing.{spare-trails, stood-trails, trails-unmarked}
use Rattle.ink_value.specs.Undo.{stack_back, stack_spare, stack_stood}
use Rattle.ink_value.proofs.Undoing.{is_held, same_trail}
use Rattle.ink_value.proofs.stack.EvalStack.drop_top.Goals as goal

pub invariant_of-self : goal.invariant_of-self
invariant_of-self c = is_held c.drop_noted.new.items _ c.drop_noted.ensures.held

pub returns-then-is_marked-clause-trail : goal.returns-then-is_marked-clause-trail
returns-then-is_marked-clause-trail c = rw (← c.self.view_is) c.drop_noted.ensures.trail

pub returns-then-is_marked-clause-stood : goal.returns-then-is_marked-clause-stood
unfolding stack_stood
returns-then-is_marked-clause-stood c = stood-trails stack_back (returns-then-is_marked-clause-trail c)

pub returns-then-is_marked-clause-spare : goal.returns-then-is_marked-clause-spare
unfolding stack_spare
returns-then-is_marked-clause-spare c = spare-trails stack_back (returns-then-is_marked-clause-trail c)

pub returns-then-count-eq1-clause-trail : goal.returns-then-count-eq1-clause-trail
returns-then-count-eq1-clause-trail c =
    trails-unmarked stack_back c.args.count _ _ _ _ (ap (λ s. is_some s.trail.undo) (sym c.self.view_is) ∙ sym c.is_marked.ensures ∙ c.if-is_marked.false)
    (same_trail c.args.self.now.trail c.drop_one.new.self.trail c.drop_one.ensures.trail)

pub returns-then-count-eq1-clause-stood : goal.returns-then-count-eq1-clause-stood
unfolding stack_stood
returns-then-count-eq1-clause-stood c = stood-trails stack_back (returns-then-count-eq1-clause-trail c)

pub returns-then-count-eq1-clause-spare : goal.returns-then-count-eq1-clause-spare
unfolding stack_spare
returns-then-count-eq1-clause-spare c = spare-trails stack_back (returns-then-count-eq1-clause-trail c)

pub returns-else-count-eq1-clause-trail : goal.returns-else-count-eq1-clause-trail
returns-else-count-eq1-clause-trail c =
    rw (← c.self.view_is) (trails-unmarked stack_back c.args.count _ _ _ _ (sym c.is_marked.ensures ∙ c.if-is_marked.false)
    (same_trail c.self.inside.trail c.self.inside.trail refl))

pub returns-else-count-eq1-clause-stood : goal.returns-else-count-eq1-clause-stood
unfolding stack_stood
returns-else-count-eq1-clause-stood c = stood-trails stack_back (returns-else-count-eq1-clause-trail c)

pub returns-else-count-eq1-clause-spare : goal.returns-else-count-eq1-clause-spare
unfolding stack_spare
returns-else-count-eq1-clause-spare c = spare-trails stack_back (returns-else-count-eq1-clause-trail c)
