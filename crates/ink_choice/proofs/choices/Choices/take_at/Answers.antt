use Rattle.std.proofs.Common.{◌∙◌, ap, arith, refl, sym, vec_capacity, ◌≡◌, is_some, subst, true, get_or}
use Rattle.ink_trail.proofs.Undoing.{stood-trails, trails-unmarked, stood-marked}
use Rattle.ink_trail.specs.Undo.{trail_of}
use Rattle.ink_choice.specs.Undo.{choices_back, choices_spare, choices_stood}
use Rattle.ink_choice.proofs.Settling.{settled-removed}
use Rattle.ink_choice.proofs.Undoing.{held-now, held-unmarked}
use Rattle.ink_choice.proofs.Lists.{on_err, in_list}
use Rattle.ink_choice.proofs.choices.Choices.take_at.Goals as goal

pub invariant_of-self : goal.invariant_of-self
invariant_of-self g c =
    let old = c.self.inside.items in
    let new = c.remove.new.self in
    let held = held-now (vec_capacity old) (trail_of c.self.inside.trail.undo) old.items c.self.invariant.1 in (
      omega (arith, c.self.invariant.0, c.remove.ensures.len, old.ok.0, new.ok.0),
      held-unmarked (vec_capacity new) c.self.inside.trail.undo new.items (sym c.is_marked.ensures ∙ c.if-is_marked.false)
          (omega (arith, held.0, c.remove.ensures.len, old.ok.0, new.ok.0), omega (arith, held.1, c.remove.ensures.capacity, c.remove.ensures.len, old.ok.0, new.ok.0)),
      rw c.remove.ensures.items (settled-removed c.min-self-inside.result c.self.inside.settled c.args.index old.items (omega arith) (omega arith) c.self.invariant.2),
    )

pub returns-clause-trail : goal.returns-clause-trail
returns-clause-trail g c =
    rw (← c.self.view_is) (trails-unmarked choices_back 1 _ _ c.self.inside.trail c.self.inside.trail (sym c.is_marked.ensures ∙ c.if-is_marked.false) (refl, omega arith))

pub returns-clause-stood : goal.returns-clause-stood
unfolding choices_stood
returns-clause-stood g c = stood-trails choices_back (returns-clause-trail g c)

pub returns-clause-spare : goal.returns-clause-spare
unfolding choices_spare
returns-clause-spare g c = omega (arith, ap choices_spare c.self.view_is)

pub returns-then-is_marked-clause-memory : goal.returns-then-is_marked-clause-memory
unfolding choices_stood
returns-then-is_marked-clause-memory g c =
    let marked = stood-marked choices_back c.self.inside.trail c.self.inside.items.items ∙ sym c.is_marked.ensures ∙ c.if-is_marked.true in
    on_err c.take_marked.result (subst (λ s. is_some (choices_stood s) ≡ true) c.self.view_is marked)

pub remove-requires : goal.remove-requires
remove-requires g c = in_list c.self.inside.items c.args.self.now.items c.args.index (ap (λ s. s.items) c.self.view_is) c.requires

pub returns-clause-choice : goal.returns-clause-choice
returns-clause-choice g c = subst (λ s. c.remove.result ≡ get_or s.items c.args.index c.remove.result) c.self.view_is c.remove.ensures.value
