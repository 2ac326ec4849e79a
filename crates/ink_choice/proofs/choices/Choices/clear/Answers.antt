use Rattle.std.proofs.Common.{◌∙◌, ap, arith, refl, sym, vec_capacity}
use Rattle.ink_trail.proofs.Undoing.{stood-trails, trails-unmarked}
use Rattle.ink_choice.specs.Undo.{choices_back, choices_spare, choices_stood}
use Rattle.ink_choice.proofs.Undoing.{held-empty, held-unmarked}
use Rattle.ink_choice.proofs.choices.Choices.clear.Goals as goal

pub returns-else-is_marked-clause-trail : goal.returns-else-is_marked-clause-trail
returns-else-is_marked-clause-trail g c =
    rw (← c.self.view_is) (trails-unmarked choices_back 1 _ _ c.self.inside.trail c.self.inside.trail (sym c.is_marked.ensures ∙ c.if-is_marked.false) (refl, omega arith))

pub returns-else-is_marked-clause-stood : goal.returns-else-is_marked-clause-stood
unfolding choices_stood
returns-else-is_marked-clause-stood g c = stood-trails choices_back (returns-else-is_marked-clause-trail g c)

pub returns-else-is_marked-clause-spare : goal.returns-else-is_marked-clause-spare
unfolding choices_spare
returns-else-is_marked-clause-spare g c = omega (arith, ap choices_spare c.self.view_is)

pub invariant_of-self : goal.invariant_of-self
invariant_of-self g c =
    let new = c.end_all.new.items in
    let held = held-empty (vec_capacity new) new.items c.end_all.ensures.items in
    (held.0, held-unmarked (vec_capacity new) c.self.inside.trail.undo new.items (sym c.is_marked.ensures ∙ c.if-is_marked.false) held, tt)
