use Rattle.std.proofs.Common.{◌≡◌, ◌∙◌, Err, ap, arith, length, refl, subst}
use Rattle.ink_stack.proofs.Common.{length-reverse, doubled, OutOfMemory, trails-one, trail_of, threads_in, threads_back, Grows}
use Rattle.ink_stack.specs.declared.undo.ThreadsPair.TheVariants.{ThreadPushed}
use Rattle.ink_stack.proofs.Backs.{as-it-was, but-for-room, doubled-back, grown-kept, grown-refused, popped-drop, spare-of, stood-of, stood-same}
use Rattle.ink_stack.proofs.Holding.{held-as, held-now, held-with, room-refl}
use Rattle.ink_stack.proofs.Unmarked.{spare-or}
use Rattle.ink_stack.proofs.threads.Threads.push_thread_marked.Given.{Over}
use Rattle.ink_stack.proofs.threads.Threads.push_thread_marked.Goals.{After-add, After-pop-copy}
use Rattle.ink_stack.proofs.threads.Threads.push_thread_marked.Goals as goal

pub invariant_of-self : goal.invariant_of-self
invariant_of-self g c =
    let u = c.self.inside.trail.undo in
    let ts = threads_in c.self.inside.running c.self.inside.below.items in
    let same = grown-kept (doubled ts) ts (threads_in c.self.inside.running c.push_copy.new.below.items) c.push_copy.result c.in-Err.fault c.in-Err.is c.push_copy.ensures.threads in
    (c.push_copy.ensures.few, held-as u u _ _ _ _ refl same (record { frames = room-refl _; threads = c.push_copy.ensures.room }) c.self.invariant.1)

pub returns-in-Err : goal.returns-in-Err
returns-in-Err g c =
    let ts = threads_in c.self.inside.running c.self.inside.below.items in
    let same = grown-kept (doubled ts) ts (threads_in c.self.inside.running c.push_copy.new.below.items) c.push_copy.result c.in-Err.fault c.in-Err.is c.push_copy.ensures.threads in
    let trail = as-it-was _ _ c.self.inside.trail same in
    rw (← c.self.view_is) (record { threads = rw (← c.in-Err.is) c.push_copy.ensures.threads; trail = trail; pair = tt; stood = stood-same _ _ trail; spare = spare-or {A = Unit} (Err c.in-Err.fault) 1 _ _ trail })

-- the copy goes again
back : (g : Over) (c : After-add g) → threads_back ThreadPushed (threads_in c.self.inside.running c.push_copy.new.below.items) ≡ threads_in c.self.inside.running c.self.inside.below.items
back g c =
    doubled-back (threads_in c.self.inside.running c.self.inside.below.items) (threads_in c.self.inside.running c.push_copy.new.below.items) c.push_copy.result c.in_default.field-0 c.in_default.is
    c.push_copy.ensures.threads

popped : (g : Over) (c : After-pop-copy g) → threads_in c.self.inside.running c.pop-copy.new.self.items ≡ threads_in c.self.inside.running c.self.inside.below.items
popped g c =
    ap (λ us. record { thread = c.self.inside.running.thread; below = us })
    (popped-drop c.push_copy.new.below.items c.pop-copy.new.self.items c.pop-copy.result _ _ c.pop-copy.ensures.items c.pop-copy.ensures.cases c.push_copy.new.below.ok.0)
    ∙ back g (goal.at.After-pop-copy g c).After-add

pub invariant_of-self-in_default-add : goal.invariant_of-self-in_default-add
invariant_of-self-in_default-add g c =
    let items = c.self.inside.below.items in
    let rest = c.pop-copy.new.self.items in
    let same = popped g (goal.at.invariant_of-self-in_default-add g c).After-pop-copy in (
      omega (arith, ap (λ us. length us.below) same, length-reverse rest, length-reverse items, c.self.invariant.0),
      held-as c.self.inside.trail.undo c.add.new.self.undo _ _ _ _ c.in_default-add.ensures.err.0 same
          (record { frames = room-refl _; threads = omega (arith, c.push_copy.ensures.room, c.pop-copy.ensures.capacity) }) c.self.invariant.1,
    )

pub returns-in_default-add : goal.returns-in_default-add
returns-in_default-add g c =
    let ts = threads_in c.self.inside.running c.self.inside.below.items in
    let us = threads_in c.self.inside.running c.push_copy.new.below.items in
    let same = popped g (goal.at.returns-in_default-add g c).After-pop-copy in
    let threads = grown-refused (doubled ts) ts us (threads_in c.self.inside.running c.pop-copy.new.self.items) c.push_copy.result c.in_default.field-0 c.in_default.is same c.push_copy.ensures.threads in
    let trail = but-for-room _ _ c.self.inside.trail c.add.new.self same c.in_default-add.ensures.err in
    rw (← c.self.view_is) (record { threads = threads; trail = trail; pair = tt; stood = stood-same _ _ trail; spare = spare-or {A = Unit} (Err OutOfMemory) 1 _ _ trail })

pub invariant_of-self-in-Ok : goal.invariant_of-self-in-Ok
invariant_of-self-in-Ok g c =
    let below = c.push_copy.new.below in
    let now = held-now _ (trail_of c.self.inside.trail.undo) _ c.self.invariant.1 in
    rw c.in-Ok.ensures.ok (
      c.push_copy.ensures.few,
      held-with ThreadPushed 1 _ (threads_in c.self.inside.running below.items) c.self.inside.trail.undo _ _ (back g (goal.at.invariant_of-self-in-Ok g c).After-add) (record {
        thread = now.thread;
        few = omega (arith, c.push_copy.ensures.few, length-reverse below.items);
        fit = omega (arith, length-reverse below.items, below.ok.0, below.ok.1);
      }) (record { frames = room-refl _; threads = c.push_copy.ensures.room }) c.self.invariant.1,
    )

pub returns : goal.returns
returns g c =
    let ts = threads_in c.self.inside.running c.self.inside.below.items in
    let us = threads_in c.self.inside.running c.push_copy.new.below.items in
    let threads = subst (λ x. Grows (doubled ts) ts us x) c.in_default.is c.push_copy.ensures.threads in
    let trail = trails-one threads_back ThreadPushed 1 ts us c.self.inside.trail c.add.new.self (omega arith) (back g (goal.at.returns g c).After-add) c.in-Ok.ensures.ok c.add.ensures.room in
    rw (← c.self.view_is) (record { threads = threads; trail = trail; pair = c.in-Ok.ensures.ok; stood = stood-of 1 _ _ trail; spare = spare-of 1 _ _ trail })
