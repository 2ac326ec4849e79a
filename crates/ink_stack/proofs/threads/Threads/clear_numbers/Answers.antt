use Rattle.std.proofs.Common.{◌≡◌, ◌∙◌, ap, arith, false, is_some, length, map, refl, vec_len}
use Rattle.std.proofs.lemmas.List.{length-map, length-reverse, with_items_is}
use Rattle.ink_model.specs.Flow.Frames.{unnumbered_thread}
use Rattle.ink_stack.proofs.Common.{trail_of, threads_in, threads_spare}
use Rattle.ink_stack.proofs.Backs.{stood-unmarked, unmarked-stood}
use Rattle.ink_stack.proofs.Holding.{held-now, held-unmarked}
use Rattle.ink_stack.proofs.Reversing.{map-reverse}
use Rattle.ink_stack.proofs.threads.Threads.clear_numbers.Given.{Over}
use Rattle.ink_stack.proofs.threads.Threads.clear_numbers.Goals.{After-clear_numbers_of}
use Rattle.ink_stack.proofs.threads.Threads.clear_numbers.Goals as goal

changed : (g : Over) (c : After-clear_numbers_of g) → c.clear_numbers_of.new.threads ≡ map unnumbered_thread c.self.inside.below.items
changed g c = c.clear_numbers_of.ensures ∙ ap (map unnumbered_thread) c.as_mut_slice.ensures.value

kept : (g : Over) (c : After-clear_numbers_of g) → length c.clear_numbers_of.new.threads ≡ vec_len c.self.inside.below
kept g c = c.clear_numbers_of.auto.threads ∙ c.as_mut_slice.ensures.len

pub invariant_of-self : goal.invariant_of-self
invariant_of-self g c =
    let items = c.self.inside.below.items in
    let now = held-now _ (trail_of c.self.inside.trail.undo) _ c.self.invariant.1 in
    let none : is_some c.self.inside.trail.undo ≡ false = ap (λ v. is_some v.trail.undo) c.self.view_is ∙ unmarked-stood c.args.self.now c.requires.unmarked in
    let at = (goal.at.invariant_of-self g c).After-clear_numbers_of in
    rw (with_items_is c.self.inside.below c.clear_numbers_of.new.threads (kept g at), changed g at) (
      rw length-map c.self.invariant.0,
      held-unmarked c.self.inside.trail.undo _ (threads_in c.clear_numbers.new.self (map unnumbered_thread items)) none (record {
        thread = c.within.ensures;
        few = omega (arith, length-map items unnumbered_thread, length-reverse (map unnumbered_thread items), c.self.invariant.0);
        fit = omega (arith, length-map items unnumbered_thread, length-reverse (map unnumbered_thread items), length-reverse items, now.fit);
      }),
    )

pub returns-clause-threads : goal.returns-clause-threads
returns-clause-threads g c =
    let at = (goal.at.returns-clause-threads g c).After-clear_numbers_of in
    rw (← c.self.view_is)
    (rw (with_items_is c.self.inside.below c.clear_numbers_of.new.threads (kept g at), c.clear_numbers.ensures, changed g at, map-reverse) refl)

pub returns-clause-stood : goal.returns-clause-stood
returns-clause-stood g c = stood-unmarked c.args.self.now _ c.requires.unmarked (ap (λ v. v.trail.undo) c.self.view_is)

pub returns-clause-trail : goal.returns-clause-trail
returns-clause-trail g c = rw (← c.self.view_is) (refl, omega arith)

pub returns-clause-spare : goal.returns-clause-spare
unfolding threads_spare
returns-clause-spare g c = rw (← c.self.view_is) (omega arith)
