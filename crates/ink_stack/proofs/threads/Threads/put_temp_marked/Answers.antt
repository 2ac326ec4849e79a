use Rattle.std.proofs.Common.{◌∙◌, Err, ap, arith, inl, inr, refl, reverse, vec_capacity, ◌≤◌, subst, sym}
use Rattle.ink_stack.proofs.Common.{OutOfMemory, threads_in, threads_back, frame_count}
use Rattle.ink_trail.proofs.Undoing.{trails-after, trails-one}
use Rattle.ink_trail.specs.Undo.{with_pair}
use Rattle.ink_stack.specs.declared.undo.ThreadsPair.TheVariants.{Temp}
use Rattle.ink_stack.proofs.Backs.{but-for-room, few-of, spare-of, stood-of, stood-same}
use Rattle.ink_stack.proofs.Holding.{held-as, held-noted, more-refl, rooms_at}
use Rattle.ink_stack.proofs.Unmarked.{spare-or}
use Rattle.ink_stack.proofs.threads.Threads.put_temp_marked.Goals as goal

pub invariant_of-self : goal.invariant_of-self
invariant_of-self g c = (c.self.invariant.0, held-as c.self.inside.trail.undo c.ready.new.self.undo _ _ _ _ c.ready.ensures.kept.0 refl (more-refl _) c.self.invariant.1)

pub returns-in_default : goal.returns-in_default
returns-in_default g c =
    let ts = threads_in c.self.inside.running c.self.inside.below.items in
    let trail = but-for-room ts ts c.self.inside.trail c.ready.new.self refl c.ready.ensures.kept in
    rw (← c.self.view_is)
    (record { ok = tt; fault = refl; kept = refl; memory = inr (few-of 1 _ c.in_default.ensures.lacks); trail = trail; pair = tt; stood = stood-same _ _ trail; spare = spare-or {A = Unit} (Err OutOfMemory) 1 _ _ trail })

pub invariant_of-self-in_default-set : goal.invariant_of-self-in_default-set
invariant_of-self-in_default-set g c =
    let kept = ap (λ t. record { thread = t; below = reverse c.self.inside.below.items }) c.in_default-set.ensures.err in
    (c.self.invariant.0, held-as c.self.inside.trail.undo c.ready.new.self.undo _ _ _ _ c.ready.ensures.kept.0 kept (record { frames = c.set_temp-set.ensures.room; threads = omega arith }) c.self.invariant.1)

pub returns-in_default-set : goal.returns-in_default-set
returns-in_default-set g c =
    let kept = ap (λ t. record { thread = t; below = reverse c.self.inside.below.items }) c.in_default-set.ensures.err in
    let trail = but-for-room _ _ c.self.inside.trail c.ready.new.self kept c.ready.ensures.kept in
    rw (← c.self.view_is)
    (record { ok = tt; fault = refl; kept = kept; memory = inl c.in_default-set.ensures.memory; trail = trail; pair = tt; stood = stood-same _ _ trail; spare = spare-or {A = Unit} (Err OutOfMemory) 1 _ _ trail })

pub invariant_of-self-2 : goal.invariant_of-self-2
invariant_of-self-2 g c =
    let v = c.self.inside.running in
    let m = vec_capacity c.self.inside.below in
    let ts = threads_in v c.self.inside.below.items in
    rw c.note.ensures.undo (
      c.self.invariant.0,
      held-noted (Temp c.args.frame c.in-Ok-set.index c.in-Ok-set.was) 1 c.ready.new.self.undo v c.set_temp-set.new.self c.self.inside.below.items m
          (ap (λ t. record { thread = t; below = ts.below }) c.in-Ok-set.ensures.back) c.within.ensures (record { frames = c.set_temp-set.ensures.room; threads = omega arith })
          (held-as c.self.inside.trail.undo c.ready.new.self.undo (rooms_at v m) (rooms_at v m) ts ts c.ready.ensures.kept.0 refl (more-refl (rooms_at v m)) c.self.invariant.1),
    )

pub returns : goal.returns
returns g c =
    let ts = threads_in c.self.inside.running c.self.inside.below.items in
    let us = threads_in c.set_temp-set.new.self c.self.inside.below.items in
    let trail = trails-after threads_back 1 ts us c.self.inside.trail c.ready.new.self c.note.new.self c.ready.ensures.kept
    (trails-one threads_back (Temp c.args.frame c.in-Ok-set.index c.in-Ok-set.was) 1 ts us c.ready.new.self c.note.new.self (omega arith) (ap (λ t. record { thread = t; below = ts.below }) c.in-Ok-set.ensures.back)
    c.note.ensures.undo c.note.ensures.room) in
    let noted = c.note.ensures.undo ∙ ap (with_pair (Temp c.args.frame c.in-Ok-set.index c.in-Ok-set.was) 1) c.ready.ensures.kept.0 in
    let ok = ap (λ t. record { thread = t; below = ts.below }) c.in-Ok-set.ensures.ok in
    rw (← c.self.view_is) (record { ok = ok; fault = tt; kept = tt; memory = tt; trail = trail; pair = (c.in-Ok-set.index, c.in-Ok-set.was, noted); stood = stood-of 1 _ _ trail; spare = spare-of 1 _ _ trail })

pub set_temp-set-requires-clause-there : goal.set_temp-set-requires-clause-there
set_temp-set-requires-clause-there g c = subst (λ v. c.args.frame ≤ frame_count v.threads.thread) (sym c.self.view_is) c.requires.there
