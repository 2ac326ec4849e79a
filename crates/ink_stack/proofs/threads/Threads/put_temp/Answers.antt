use Rattle.std.proofs.Common.{◌∙◌, Err, ap, inl, refl, reverse, sym, ◌≤◌, subst}
use Rattle.ink_stack.proofs.Common.{OutOfMemory, frame_count}
use Rattle.ink_stack.proofs.Backs.{as-it-was, spare-of, stood-of, stood-same}
use Rattle.ink_stack.proofs.Holding.{held-moved}
use Rattle.ink_stack.proofs.Unmarked.{free, no_temp, spare-or}
use Rattle.ink_stack.proofs.threads.Threads.put_temp.Goals as goal

pub returns-then-is_marked : goal.returns-then-is_marked
returns-then-is_marked g c =
    let e = c.put_temp_marked.ensures in
    record { ok = e.ok; fault = e.fault; kept = e.kept; memory = e.memory; trail = e.trail; pair = e.pair; stood = e.stood; spare = e.spare }

pub invariant_of-self : goal.invariant_of-self
invariant_of-self g c =
    (c.self.invariant.0, held-moved c.self.inside.trail.undo c.self.inside.running c.put_temp-set.new.self c.self.inside.below.items _ (sym c.is_marked.ensures ∙ c.if-is_marked.false) c.within.ensures c.self.invariant.1)

pub returns-in_default : goal.returns-in_default
returns-in_default g c =
    let kept = ap (λ t. record { thread = t; below = reverse c.self.inside.below.items }) c.in_default.ensures.err in
    let trail = as-it-was _ _ c.self.inside.trail kept in
    rw (← c.self.view_is) (record { ok = tt; fault = refl; kept = kept; memory = inl c.in_default.ensures.memory; trail = trail; pair = tt; stood = stood-same _ _ trail; spare = spare-or {A = Unit} (Err OutOfMemory) 1 _ _ trail })

pub invariant_of-self-2 : goal.invariant_of-self-2
invariant_of-self-2 g c =
    (c.self.invariant.0, held-moved c.self.inside.trail.undo c.self.inside.running c.put_temp-set.new.self c.self.inside.below.items _ (sym c.is_marked.ensures ∙ c.if-is_marked.false) c.within.ensures c.self.invariant.1)

pub returns : goal.returns
returns g c =
    let none = sym c.is_marked.ensures ∙ c.if-is_marked.false in
    let trail = free 1 _ _ c.self.inside.trail none in
    let ok = ap (λ t. record { thread = t; below = reverse c.self.inside.below.items }) c.in-Ok.ensures.ok in
    rw (← c.self.view_is) (record { ok = ok; fault = tt; kept = tt; memory = tt; trail = trail; pair = no_temp c.args.frame c.self.inside.trail none; stood = stood-of 1 _ _ trail; spare = spare-of 1 _ _ trail })

pub put_temp-set-requires-clause-there : goal.put_temp-set-requires-clause-there
put_temp-set-requires-clause-there g c = subst (λ v. c.args.frame ≤ frame_count v.threads.thread) (sym c.self.view_is) c.requires.there
