use Rattle.std.proofs.Common.{◌∙◌, ap, sym}
use Rattle.ink_stack.proofs.Common.{frame_count, threads_in}
use Rattle.ink_stack.proofs.Backs.{room-of, spare-of, stood-of}
use Rattle.ink_stack.proofs.Holding.{held-moved}
use Rattle.ink_stack.proofs.Unmarked.{free}
use Rattle.ink_stack.proofs.threads.Threads.end_freshness.Goals as goal

pub end_freshness-requires : goal.end_freshness-requires
end_freshness-requires g c = record { spare = rw (← c.self.view_is) at (room-of _ _ _ c.self.view_is c.requires.room); held = c.self.invariant.1 }

pub invariant_of-self : goal.invariant_of-self
invariant_of-self g c = (c.self.invariant.0, c.end_freshness.ensures.held)

pub returns-then-is_marked : goal.returns-then-is_marked
returns-then-is_marked g c =
    let n = frame_count c.self.inside.running.thread in
    let threads = ap (λ v. threads_in v c.self.inside.below.items) c.end_freshness.ensures.running in
    let trail = c.end_freshness.ensures.trail in
    rw (← c.self.view_is) (record { threads = threads; trail = trail; stood = stood-of n _ _ trail; spare = spare-of n _ _ trail })

pub invariant_of-self-2 : goal.invariant_of-self-2
invariant_of-self-2 g c =
    (c.self.invariant.0, held-moved c.self.inside.trail.undo c.self.inside.running c.end_freshness-2.new.self c.self.inside.below.items _ (sym c.is_marked.ensures ∙ c.if-is_marked.false) c.within.ensures c.self.invariant.1)

pub returns : goal.returns
returns g c =
    let n = frame_count c.self.inside.running.thread in
    let threads = ap (λ v. threads_in v c.self.inside.below.items) c.end_freshness-2.ensures in
    let trail = free n _ _ c.self.inside.trail (sym c.is_marked.ensures ∙ c.if-is_marked.false) in
    rw (← c.self.view_is) (record { threads = threads; trail = trail; stood = stood-of n _ _ trail; spare = spare-of n _ _ trail })
