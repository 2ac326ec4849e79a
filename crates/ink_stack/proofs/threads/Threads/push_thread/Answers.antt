use Rattle.std.proofs.Common.{◌∙◌, arith, sym}
use Rattle.ink_stack.proofs.Common.{length-reverse, doubled, trail_of, threads_in}
use Rattle.ink_stack.proofs.Holding.{held-now, held-unmarked}
use Rattle.ink_stack.specs.declared.undo.ThreadsPair.TheVariants.{ThreadPushed}
use Rattle.ink_stack.proofs.Unmarked.{spare-or, stood-or, trails-grown, unnoted}
use Rattle.ink_stack.proofs.threads.Threads.push_thread.Goals as goal

pub returns-then-is_marked : goal.returns-then-is_marked
returns-then-is_marked g c =
    let e = c.push_thread_marked.ensures in
    rw (← c.share_frames.ensures) (record { threads = e.threads; trail = e.trail; pair = e.pair; stood = e.stood; spare = e.spare })

pub invariant_of-self : goal.invariant_of-self
invariant_of-self g c =
    let now = held-now _ (trail_of c.self.inside.trail.undo) _ c.self.invariant.1 in
    let below = c.push_copy.new.below in (
      c.push_copy.ensures.few,
      held-unmarked c.self.inside.trail.undo _ (threads_in c.self.inside.running below.items) (sym c.is_marked.ensures ∙ c.if-is_marked.false) (record {
        thread = now.thread;
        few = omega (arith, c.push_copy.ensures.few, length-reverse below.items);
        fit = omega (arith, length-reverse below.items, below.ok.0, below.ok.1);
      }),
    )

pub returns : goal.returns
returns g c =
    let ts = threads_in c.self.inside.running c.self.inside.below.items in
    let pushed = c.push_copy.result in
    let threads = c.push_copy.ensures.threads in
    let none = sym c.is_marked.ensures ∙ c.if-is_marked.false in
    let trail = trails-grown 1 (doubled ts) ts _ pushed c.self.inside.trail none threads in
    rw (← c.share_frames.ensures) (rw (← c.self.view_is) (record { threads = threads; trail = trail; pair = unnoted pushed ThreadPushed _ none; stood = stood-or pushed 1 _ _ trail; spare = spare-or pushed 1 _ _ trail }))
