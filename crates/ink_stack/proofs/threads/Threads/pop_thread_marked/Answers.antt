use Rattle.std.proofs.Common.{ap, arith, length, option_to_list, refl, sym, ◌++◌, ◌∙◌, ◌≡◌, ◌≤◌, vec_capacity, reverse, unwrap_or, is_some}
use Rattle.std.proofs.lemmas.List.{append-nil, length-reverse}
use Rattle.ink_trail.proofs.Undoing.{trails-kept, trails-one}
use Rattle.ink_stack.proofs.Common.{trail_of, threads_in, threads_back}
use Rattle.ink_stack.specs.declared.undo.ThreadsPair.TheVariants.{ThreadPopped}
use Rattle.ink_stack.proofs.Backs.{room-of, spare-of, stood-of, thread-popped-back}
use Rattle.ink_stack.proofs.Holding.{held-as, held-next, held-now, held-with, room-refl, room-same}
use Rattle.ink_stack.proofs.threads.Threads.pop_thread_marked.Given.{Over}
use Rattle.ink_stack.proofs.threads.Threads.pop_thread_marked.Goals.{After-note}
use Rattle.ink_stack.proofs.Tops.{dropped_is}
use Rattle.ink_stack.proofs.threads.Threads.pop_thread_marked.Goals as goal

-- the top thread comes back, and the next one lies below it again
back : (g : Over) (c : After-note g) → threads_back (ThreadPopped c.replace-top.result) (threads_in c.run.result c.pop.new.self.items)
    ≡ threads_in c.self.inside.running c.self.inside.below.items
back g c =
    thread-popped-back c.replace-top.result c.run.result c.in-Some.next c.pop.new.self.items c.self.inside.below.items c.run.ensures.thread c.in-Some.ensures.items
    ∙ ap (λ v. threads_in v c.self.inside.below.items) c.replace-top.ensures.value

pub invariant_of-self-2 : goal.invariant_of-self-2
invariant_of-self-2 g c =
    let rest = c.pop.new.self.items in
    let now = held-now _ (trail_of c.self.inside.trail.undo) _ c.self.invariant.1 in
    let more : vec_capacity c.self.inside.below ≤ vec_capacity c.pop.new.self = omega (arith, c.pop.ensures.capacity) in
    let held = held-next _ c.self.inside.running c.run.result c.in-Some.next rest c.self.inside.below.items (vec_capacity c.pop.new.self) c.in-Some.ensures.items c.run.ensures.within more now in
    let frames = room-same c.self.inside.running.room c.replace-top.result.room (ap (λ v. v.room) c.replace-top.ensures.value) in
    rw (c.note.ensures.undo, c.replace-top.ensures.after) (
      omega (arith, held.few, length-reverse rest),
      held-with (ThreadPopped c.replace-top.result) 1 _ (threads_in c.run.result rest) c.self.inside.trail.undo _ _ (back g (goal.at.invariant_of-self-2 g c).After-note) held
          (record { frames = frames; threads = more }) c.self.invariant.1,
    )

pub returns-clause-trail : goal.returns-clause-trail
returns-clause-trail g c =
    rw (← c.self.view_is, c.replace-top.ensures.after)
    (trails-one threads_back (ThreadPopped c.replace-top.result) 1 (threads_in c.self.inside.running c.self.inside.below.items) _ _ _ (omega arith)
    (back g (goal.at.returns-clause-trail g c).After-note) c.note.ensures.undo c.note.ensures.room)

pub returns-clause-stood : goal.returns-clause-stood
returns-clause-stood g c = stood-of 1 _ _ (returns-clause-trail g c)

pub returns-clause-spare : goal.returns-clause-spare
returns-clause-spare g c = spare-of 1 _ _ (returns-clause-trail g c)

pub invariant_of-self : goal.invariant_of-self
invariant_of-self g c =
    let u = c.self.inside.trail.undo in
    let rest = c.pop.new.self.items in
    let same : rest ≡ c.self.inside.below.items = sym (c.pop.ensures.items ∙ ap (λ o. rest ++ option_to_list o) c.in_default.is ∙ append-nil rest) in (
      omega (arith, ap length same, c.self.invariant.0),
      held-as u u _ _ _ _ refl (ap (threads_in c.self.inside.running) same) (record { frames = room-refl _; threads = omega (arith, c.pop.ensures.capacity) }) c.self.invariant.1,
    )

pub returns-in_default-clause-trail : goal.returns-in_default-clause-trail
returns-in_default-clause-trail g c =
    let rest = c.pop.new.self.items in
    let same : rest ≡ c.self.inside.below.items = sym (c.pop.ensures.items ∙ ap (λ o. rest ++ option_to_list o) c.in_default.is ∙ append-nil rest) in
    rw (← c.self.view_is) (trails-kept threads_back 1 _ _ _ _ (ap (threads_in c.self.inside.running) same) (refl, omega arith))

pub returns-in_default-clause-stood : goal.returns-in_default-clause-stood
returns-in_default-clause-stood g c = stood-of 1 _ _ (returns-in_default-clause-trail g c)

pub returns-in_default-clause-spare : goal.returns-in_default-clause-spare
returns-in_default-clause-spare g c = spare-of 1 _ _ (returns-in_default-clause-trail g c)

pub note-requires-clause-spare : goal.note-requires-clause-spare
note-requires-clause-spare g c = room-of 1 _ _ c.self.view_is c.requires.room

pub returns-clause-new : goal.returns-clause-new
returns-clause-new g c =
    let rest = c.pop.new.self.items in
    let is = dropped_is c.self.inside.running.thread c.in-Some.next rest c.self.inside.below.items c.in-Some.ensures.items in
    let top = ap (λ t. t.thread) c.replace-top.ensures.after ∙ c.run.ensures.thread in
    rw (← c.self.view_is) (ap (λ t. record { thread = t; below = reverse rest }) top ∙ sym (ap (λ o. unwrap_or o (threads_in c.self.inside.running c.self.inside.below.items)) is))

pub returns-clause-dropped : goal.returns-clause-dropped
returns-clause-dropped g c =
    rw (← c.self.view_is) (sym (ap is_some (dropped_is c.self.inside.running.thread c.in-Some.next c.pop.new.self.items c.self.inside.below.items c.in-Some.ensures.items)))
