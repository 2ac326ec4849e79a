use Rattle.std.proofs.Common.{◌≡◌, ◌∙◌, Err, ap, arith, refl, reverse, subst}
use Rattle.ink_stack.proofs.Common.{frame_pushed, top_result, OutOfMemory, trails-one, frame_kind, threads_in, threads_back, Grows}
use Rattle.ink_stack.specs.declared.undo.ThreadsPair.TheVariants.{FramePushed}
use Rattle.ink_stack.proofs.Backs.{as-it-was, but-for-room, grown-kept, grown-refused, spare-of, stood-of, stood-same, unpushed-grown}
use Rattle.ink_stack.proofs.Bases.{top_grows}
use Rattle.ink_stack.proofs.Holding.{held-as, held-noted, room-as}
use Rattle.ink_stack.proofs.Unmarked.{spare-or}
use Rattle.ink_stack.proofs.threads.Threads.push_frame_marked.Given.{Over}
use Rattle.ink_stack.proofs.threads.Threads.push_frame_marked.Goals.{After-add, After-unpush, In-Err}
use Rattle.ink_stack.proofs.threads.Threads.push_frame_marked.Goals as goal

kept : (g : Over) (c : In-Err g) → threads_in c.push-pushed.new.self c.self.inside.below.items ≡ threads_in c.self.inside.running c.self.inside.below.items
kept g c =
    let t = c.self.inside.running.thread in
    ap (λ u. record { thread = u; below = reverse c.self.inside.below.items })
    (grown-kept (frame_pushed (frame_kind c.args.kind) c.args.depth t) t c.push-pushed.new.self.thread c.push-pushed.result c.in-Err.fault c.in-Err.is c.push-pushed.ensures.thread)

pub invariant_of-self : goal.invariant_of-self
invariant_of-self g c =
    let u = c.self.inside.trail.undo in
    (c.self.invariant.0, held-as u u _ _ _ _ refl (kept g c) (record { frames = c.push-pushed.ensures.room; threads = omega arith }) c.self.invariant.1)

pub returns-in-Err : goal.returns-in-Err
returns-in-Err g c =
    let ts = threads_in c.self.inside.running c.self.inside.below.items in
    let threads = top_grows (frame_pushed (frame_kind c.args.kind) c.args.depth ts.thread) ts c.push-pushed.new.self.thread c.push-pushed.result c.push-pushed.ensures.thread in
    let trail = as-it-was _ _ c.self.inside.trail (kept g c) in
    rw (← c.self.view_is) (record { threads = rw (← c.in-Err.is) threads; trail = trail; pair = tt; stood = stood-same _ _ trail; spare = spare-or {A = Unit} (Err c.in-Err.fault) 1 _ _ trail })

-- the frame that was pushed goes again
back : (g : Over) (c : After-add g) → threads_back FramePushed (threads_in c.push-pushed.new.self c.self.inside.below.items) ≡ threads_in c.self.inside.running c.self.inside.below.items
back g c =
    ap (λ u. record { thread = u; below = reverse c.self.inside.below.items })
    (unpushed-grown (frame_kind c.args.kind) c.args.depth c.self.inside.running.thread c.push-pushed.new.self.thread c.push-pushed.result c.in_default.field-0 c.in_default.is
    c.push-pushed.ensures.thread)

unpushed_threads : (g : Over) (c : After-unpush g) → threads_in c.unpush.new.self c.self.inside.below.items ≡ threads_in c.self.inside.running c.self.inside.below.items
unpushed_threads g c = ap (λ v. threads_in v c.self.inside.below.items) c.unpush.ensures ∙ back g (goal.at.invariant_of-self-in_default-add g c).After-add

pub invariant_of-self-in_default-add : goal.invariant_of-self-in_default-add
invariant_of-self-in_default-add g c =
    let more = room-as _ _ _ c.push-pushed.ensures.room (ap (λ v. v.room) c.unpush.ensures) in
    (c.self.invariant.0, held-as c.self.inside.trail.undo c.add.new.self.undo _ _ _ _ c.in_default-add.ensures.err.0 (unpushed_threads g c) (record { frames = more; threads = omega arith }) c.self.invariant.1)

pub returns-in_default-add : goal.returns-in_default-add
returns-in_default-add g c =
    let ts = threads_in c.self.inside.running c.self.inside.below.items in
    let rule = frame_pushed (frame_kind c.args.kind) c.args.depth ts.thread in
    let same = unpushed_threads g c in
    let refused = grown-refused rule ts.thread c.push-pushed.new.self.thread c.unpush.new.self.thread c.push-pushed.result c.in_default.field-0 c.in_default.is (ap (λ us. us.thread) same) c.push-pushed.ensures.thread in
    let trail = but-for-room _ _ c.self.inside.trail c.add.new.self same c.in_default-add.ensures.err in
    rw (← c.self.view_is)
    (record { threads = top_grows rule ts c.unpush.new.self.thread (Err OutOfMemory) refused; trail = trail; pair = tt; stood = stood-same _ _ trail; spare = spare-or {A = Unit} (Err OutOfMemory) 1 _ _ trail })

pub invariant_of-self-in-Ok : goal.invariant_of-self-in-Ok
invariant_of-self-in-Ok g c =
    let same = back g (goal.at.invariant_of-self-in-Ok g c).After-add in
    rw c.in-Ok.ensures.ok
    (c.self.invariant.0, held-noted FramePushed 1 c.self.inside.trail.undo c.self.inside.running c.push-pushed.new.self c.self.inside.below.items _ same c.within.ensures (record { frames = c.push-pushed.ensures.room; threads = omega arith }) c.self.invariant.1)

pub returns : goal.returns
returns g c =
    let ts = threads_in c.self.inside.running c.self.inside.below.items in
    let us = threads_in c.push-pushed.new.self c.self.inside.below.items in
    let rule = frame_pushed (frame_kind c.args.kind) c.args.depth ts.thread in
    let threads = subst (λ x. Grows (top_result rule ts) ts us x) c.in_default.is (top_grows rule ts us.thread c.push-pushed.result c.push-pushed.ensures.thread) in
    let trail = trails-one threads_back FramePushed 1 ts us c.self.inside.trail c.add.new.self (omega arith) (back g (goal.at.returns g c).After-add) c.in-Ok.ensures.ok c.add.ensures.room in
    rw (← c.self.view_is) (record { threads = threads; trail = trail; pair = c.in-Ok.ensures.ok; stood = stood-of 1 _ _ trail; spare = spare-of 1 _ _ trail })
