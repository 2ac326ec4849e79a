use Rattle.std.proofs.Common.{arith, refl, sym, ◌∙◌}
use Rattle.std.proofs.lemmas.Bool.{OnFalse_from}
use Rattle.ink_stack.proofs.Common.{length-reverse, trail_of, threads_in}
use Rattle.ink_stack.proofs.Backs.{spare-of, stood-of}
use Rattle.ink_stack.proofs.Holding.{held-now, held-unmarked}
use Rattle.ink_stack.proofs.Unmarked.{free}
use Rattle.ink_stack.proofs.threads.Threads.pop_thread.Goals as goal

pub returns-then-is_marked : goal.returns-then-is_marked
returns-then-is_marked g c =
    let e = c.pop_thread_marked.ensures in
    record { dropped = e.dropped; new = e.new; trail = e.trail; kept = e.kept; stood = e.stood; spare = e.spare }

pub invariant_of-self : goal.invariant_of-self
invariant_of-self g c =
    let items = c.self.inside.below.items in
    let rest = c.drop_top.new.below.items in
    let e = c.drop_top.ensures in
    let now = held-now _ (trail_of c.self.inside.trail.undo) _ c.self.invariant.1 in (
      omega (arith, e.fewer, c.self.invariant.0),
      held-unmarked c.self.inside.trail.undo _ (threads_in c.drop_top.new.running rest) (sym c.is_marked.ensures ∙ c.if-is_marked.false) (record {
        thread = e.within;
        few = omega (arith, e.fewer, length-reverse rest, c.self.invariant.0);
        fit = omega (arith, e.fewer, length-reverse rest, length-reverse items, now.fit, e.room);
      }),
    )

pub returns : goal.returns
returns g c =
    let e = c.drop_top.ensures in
    let trail = free 1 _ _ c.self.inside.trail (sym c.is_marked.ensures ∙ c.if-is_marked.false) in
    rw (← c.self.view_is)
    (record { dropped = e.dropped; new = e.new; trail = trail; kept = OnFalse_from c.drop_top.result _ (λ is. (refl, omega arith)); stood = stood-of 1 _ _ trail; spare = spare-of 1 _ _ trail })
