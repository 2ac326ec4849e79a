use Rattle.std.proofs.Common.{◌≡◌, ◌∙◌, Err, Ok, ap, arith, refl, reverse}
use Rattle.ink_stack.proofs.Common.{frame_popped, trails-one, unpopped, threads_in, threads_back}
use Rattle.ink_stack.specs.declared.undo.ThreadsPair.TheVariants.{FramePopped}
use Rattle.ink_stack.proofs.Backs.{as-it-was, changed-err, changed-kept, changed-ok, room-of, spare-of, stood-of, stood-same, unpopped-changed}
use Rattle.ink_stack.proofs.Bases.{top_changes}
use Rattle.ink_stack.proofs.Holding.{held-as, held-noted, room-same}
use Rattle.ink_stack.proofs.Unmarked.{spare-or}
use Rattle.ink_stack.proofs.threads.Threads.pop_frame_marked.Given.{Over}
use Rattle.ink_stack.proofs.threads.Threads.pop_frame_marked.Goals.{After-note, In-Err}
use Rattle.ink_stack.proofs.threads.Threads.pop_frame_marked.Goals as goal

-- the frame that was popped comes back
back : (g : Over) (c : After-note g) → threads_back (FramePopped c.in-Ok.frame) (threads_in c.pop-popped.new.self c.self.inside.below.items)
    ≡ threads_in c.self.inside.running c.self.inside.below.items
back g c =
    let t = c.self.inside.running.thread in
    let new = c.pop-popped.new.self.thread in
    ap (λ u. record { thread = u; below = reverse c.self.inside.below.items })
    (ap (λ f. unpopped f new) c.in-Ok.ensures.frame
    ∙ unpopped-changed c.args.kind c.args.depth t new c.pop-popped.result c.in-Ok.frame c.in-Ok.is c.pop-popped.ensures.thread)

-- nothing has changed
kept : (g : Over) (c : In-Err g) → threads_in c.pop-popped.new.self c.self.inside.below.items ≡ threads_in c.self.inside.running c.self.inside.below.items
kept g c =
    let t = c.self.inside.running.thread in
    ap (λ u. record { thread = u; below = reverse c.self.inside.below.items })
    (changed-kept (frame_popped c.args.kind c.args.depth t) t c.pop-popped.new.self.thread c.pop-popped.result c.in-Err.fault c.in-Err.is c.pop-popped.ensures.thread)

pub invariant_of-self : goal.invariant_of-self
invariant_of-self g c =
    let frames = room-same c.self.inside.running.room c.pop-popped.new.self.room c.pop-popped.ensures.room in
    rw c.note.ensures.undo
    (c.self.invariant.0, held-noted (FramePopped c.in-Ok.frame) 1 c.self.inside.trail.undo c.self.inside.running c.pop-popped.new.self c.self.inside.below.items _ (back g c) c.within.ensures (record { frames = frames; threads = omega arith }) c.self.invariant.1)

pub invariant_of-self-in-Err : goal.invariant_of-self-in-Err
invariant_of-self-in-Err g c =
    let u = c.self.inside.trail.undo in
    let frames = room-same c.self.inside.running.room c.pop-popped.new.self.room c.pop-popped.ensures.room in
    (c.self.invariant.0, held-as u u _ _ _ _ refl (kept g c) (record { frames = frames; threads = omega arith }) c.self.invariant.1)

pub returns-in-Err : goal.returns-in-Err
returns-in-Err g c =
    let ts = threads_in c.self.inside.running c.self.inside.below.items in
    let rule = frame_popped c.args.kind c.args.depth ts.thread in
    let new = c.pop-popped.new.self.thread in
    let failed = changed-err Unit rule ts.thread new c.pop-popped.result c.in-Err.fault c.in-Err.is c.pop-popped.ensures.thread in
    let trail = as-it-was _ _ c.self.inside.trail (kept g c) in
    rw (← c.self.view_is)
    (record { threads = top_changes rule ts new (Err c.in-Err.fault) failed; trail = trail; stood = stood-same _ _ trail; spare = spare-or {A = Unit} (Err c.in-Err.fault) 1 _ _ trail })

pub returns : goal.returns
returns g c =
    let ts = threads_in c.self.inside.running c.self.inside.below.items in
    let us = threads_in c.pop-popped.new.self c.self.inside.below.items in
    let rule = frame_popped c.args.kind c.args.depth ts.thread in
    let made = changed-ok rule ts.thread us.thread c.pop-popped.result c.in-Ok.frame tt c.in-Ok.is c.pop-popped.ensures.thread in
    let trail = trails-one threads_back (FramePopped c.in-Ok.frame) 1 ts us c.self.inside.trail c.note.new.self (omega arith) (back g c) c.note.ensures.undo c.note.ensures.room in
    rw (← c.self.view_is) (record { threads = top_changes rule ts us.thread (Ok tt) made; trail = trail; stood = stood-of 1 _ _ trail; spare = spare-of 1 _ _ trail })

pub note-requires-clause-spare : goal.note-requires-clause-spare
note-requires-clause-spare g c = room-of 1 _ _ c.self.view_is c.requires.room
