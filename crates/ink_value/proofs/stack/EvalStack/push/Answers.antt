use Rattle.std.proofs.Common.{◌∙◌, arith, refl, sym}
use Rattle.ink_trail.proofs.Undoing.{spare-trails, stood-trails, trails-unmarked}
use Rattle.ink_value.specs.Undo.{stack_back, stack_spare, stack_stood}
use Rattle.ink_value.proofs.Undoing.{is_alone, same_trail}
use Rattle.ink_value.proofs.stack.EvalStack.push.Goals as goal

pub invariant_of-self : goal.invariant_of-self
invariant_of-self c =
    is_alone c.push_reserved.new.self c.self.inside.trail.undo (sym c.is_marked.ensures ∙ c.if-is_marked.false)
    (omega (arith, c.push_reserved.ensures.len, c.len-len.ensures, c.if-len-ge-MAX_STACK.false))

pub returns-clause-trail : goal.returns-clause-trail
returns-clause-trail c =
    rw (← c.self.view_is) (trails-unmarked stack_back 1 _ _ _ _ (sym c.is_marked.ensures ∙ c.if-is_marked.false) (same_trail c.self.inside.trail c.self.inside.trail refl))

pub returns-clause-stood : goal.returns-clause-stood
unfolding stack_stood
returns-clause-stood c = stood-trails stack_back (returns-clause-trail c)

pub returns-clause-spare : goal.returns-clause-spare
unfolding stack_spare
returns-clause-spare c = spare-trails stack_back (returns-clause-trail c)
