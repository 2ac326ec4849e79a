use Rattle.std.proofs.Common.{◌≡◌, ◌∙◌, ◌≤◌, [], ap, arith, vec_capacity, reverse}
use Rattle.ink_stack.proofs.Common.{trails-one, threads_in, threads_back}
use Rattle.ink_stack.specs.declared.undo.ThreadsPair.TheVariants.{Replaced}
use Rattle.ink_stack.proofs.Backs.{room-of, spare-of, stood-of}
use Rattle.ink_stack.proofs.Holding.{held-with, room-same}
use Rattle.ink_stack.proofs.threads.Threads.replace_by_marked.Given.{Over}
use Rattle.ink_stack.proofs.threads.Threads.replace_by_marked.Goals.{After-note}
use Rattle.ink_stack.proofs.threads.Threads.replace_by_marked.Goals as goal

-- all threads come back
back : (g : Over) (c : After-note g) → threads_in c.replace-top.result c.replace-below.result.items ≡ threads_in c.self.inside.running c.self.inside.below.items
back g c =
    ap (λ v. threads_in v c.replace-below.result.items) c.replace-top.ensures.value
    ∙ ap (λ b. threads_in c.self.inside.running b.items) c.replace-below.ensures.value

pub invariant_of-self : goal.invariant_of-self
invariant_of-self g c =
    let none : c.replace-below.new.dest.items ≡ [] = ap (λ b. b.items) c.replace-below.ensures.after ∙ c.new.ensures.items in
    let frames = room-same c.self.inside.running.room c.replace-top.result.room (ap (λ v. v.room) c.replace-top.ensures.value) in
    let threads : vec_capacity c.self.inside.below ≤ vec_capacity c.replace-below.result = omega (arith, ap (λ b. vec_capacity b) c.replace-below.ensures.value) in
    rw (c.note.ensures.undo, c.replace-top.ensures.after, none) (
      omega arith,
      held-with (Replaced c.replace-top.result c.replace-below.result) 1 _ (threads_in c.args.running []) c.self.inside.trail.undo _ _ (back g (goal.at.invariant_of-self g c).After-note)
          (record { thread = c.within.ensures; few = omega arith; fit = omega arith }) (record { frames = frames; threads = threads }) c.self.invariant.1,
    )

pub returns-clause-trail : goal.returns-clause-trail
returns-clause-trail g c =
    rw (← c.self.view_is)
    (trails-one threads_back (Replaced c.replace-top.result c.replace-below.result) 1 (threads_in c.self.inside.running c.self.inside.below.items) _ _ _ (omega arith)
    (back g (goal.at.returns-clause-trail g c).After-note) c.note.ensures.undo c.note.ensures.room)

pub returns-clause-stood : goal.returns-clause-stood
returns-clause-stood g c = stood-of 1 _ _ (returns-clause-trail g c)

pub returns-clause-spare : goal.returns-clause-spare
returns-clause-spare g c = spare-of 1 _ _ (returns-clause-trail g c)

pub note-requires-clause-spare : goal.note-requires-clause-spare
note-requires-clause-spare g c = room-of 1 _ _ c.self.view_is c.requires.room

pub returns-clause-threads : goal.returns-clause-threads
returns-clause-threads g c =
    ap (λ v. record { thread = v.thread; below = reverse c.replace-below.new.dest.items }) c.replace-top.ensures.after
    ∙ ap (λ ts. record { thread = c.args.running.thread; below = reverse ts }) (ap (λ v. v.items) c.replace-below.ensures.after ∙ c.new.ensures.items)
