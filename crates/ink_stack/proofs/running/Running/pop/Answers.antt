use Rattle.std.proofs.Common.{◌≡◌, ◌∙◌, [], ◌∷◌, true, ap, arith, reverse, length}
use Rattle.ink_stack.proofs.Common.{length-reverse, reverse-append, ThreadOf, same_kind}
use Rattle.ink_stack.proofs.Keeping.{kept_fewer}
use Rattle.ink_stack.proofs.Tops.{popped_made}
use Rattle.ink_stack.proofs.running.Running.pop.Goals as goal

pub invariant_of-self : goal.invariant_of-self
invariant_of-self g c =
    kept_fewer c.replace.new.dest.kind c.self.inside.frame.kind c.in-Some.caller c.pop.new.self.items c.self.inside.below.items c.self.inside.quiet c.quiet_below-self-inside.result c.min-self-inside.result c.self.inside.settled
    (ap (λ h. h.kind) c.replace.ensures.after) c.in-Some.ensures.items c.quiet_below-self-inside.ensures (omega arith) (omega (arith, c.len.ensures)) c.self.invariant

pub returns-in-Some-clause-thread : goal.returns-in-Some-clause-thread
returns-in-Some-clause-thread g c =
    let f = c.in-Some.caller in
    let rest = c.pop.new.self.items in
    let t : ThreadOf g.row.P.Denot = record { frame = c.self.inside.frame; below = reverse c.self.inside.below.items; previous = c.self.inside.previous } in
    let kind : same_kind t.frame.kind c.args.kind ≡ true = ap (λ v. same_kind v.thread.frame.kind c.args.kind) c.self.view_is ∙ c.in_ok-check_pop.ensures.same in
    let depth : t.frame.depth ≡ c.args.depth = ap (λ v. v.thread.frame.depth) c.self.view_is ∙ c.in_ok-check_pop.ensures.open in
    rw (← c.self.view_is)
    (popped_made c.args.kind c.args.depth t f c.replace.new.dest c.replace.result (reverse rest) kind depth
    (ap reverse c.in-Some.ensures.items ∙ reverse-append rest (f ∷ [])) c.replace.ensures.after)

pub invariant_of-self-in-None : goal.invariant_of-self-in-None
invariant_of-self-in-None g c = absurd (omega (arith, c.in_ok-check_pop.ensures.caller, ap (λ v. length v.thread.below) c.self.view_is, length-reverse c.self.inside.below.items, ap length c.in-None.ensures.items.0))

pub returns-in-None-clause-thread : goal.returns-in-None-clause-thread
returns-in-None-clause-thread g c = absurd (omega (arith, c.in_ok-check_pop.ensures.caller, ap (λ v. length v.thread.below) c.self.view_is, length-reverse c.self.inside.below.items, ap length c.in-None.ensures.items.0))
