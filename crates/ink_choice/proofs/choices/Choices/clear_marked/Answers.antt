use Rattle.std.proofs.Common.{ap, arith, length, vec_capacity, ◌≤◌, subst, sym}
use Rattle.ink_trail.proofs.Undoing.{spare-trails, stood-trails, trails-one}
use Rattle.ink_choice.specs.Undo.{choices_back, choices_spare, choices_stood}
use Rattle.ink_choice.specs.declared.undo.ChoicePair.TheVariants.{Cleared}
use Rattle.ink_choice.proofs.Undoing.{held-with}
use Rattle.ink_choice.proofs.choices.Choices.clear_marked.Goals as goal

pub invariant_of-self : goal.invariant_of-self
invariant_of-self g c =
    let old = c.self.inside.items in
    let new = c.taken_whole-cleared.new.items in
    let all = c.taken_whole-cleared.result in
    let none = ap length c.taken_whole-cleared.ensures.empty in
    rw c.note.ensures.undo (
      omega (arith, none),
      held-with (Cleared all) 1 old.items new.items c.self.inside.trail.undo (vec_capacity old) (vec_capacity new) (ap (λ v. v.items) c.taken_whole-cleared.ensures.whole)
          (omega (arith, none), omega (arith, none)) (omega (arith, ap vec_capacity c.taken_whole-cleared.ensures.whole)) c.self.invariant.1,
      tt,
    )

pub returns-clause-trail : goal.returns-clause-trail
returns-clause-trail g c =
    rw (← c.self.view_is) (trails-one choices_back (Cleared c.taken_whole-cleared.result) 1 _ _ _ _ (omega arith) (ap (λ v. v.items) c.taken_whole-cleared.ensures.whole)
    c.note.ensures.undo c.note.ensures.room)

pub returns-clause-stood : goal.returns-clause-stood
unfolding choices_stood
returns-clause-stood g c = stood-trails choices_back (returns-clause-trail g c)

pub returns-clause-spare : goal.returns-clause-spare
unfolding choices_spare
returns-clause-spare g c = spare-trails choices_back (returns-clause-trail g c)

pub note-requires-clause-spare : goal.note-requires-clause-spare
unfolding choices_spare
note-requires-clause-spare g c = subst (λ s. 1 ≤ choices_spare s) (sym c.self.view_is) c.requires.room
