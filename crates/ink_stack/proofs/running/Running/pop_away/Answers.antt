use Rattle.std.proofs.Common.{◌≡◌, ◌∙◌, [], ◌∷◌, true, ap, arith, refl, reverse}
use Rattle.ink_stack.proofs.Common.{reverse-append, ThreadOf, same_kind}
use Rattle.ink_stack.proofs.Keeping.{kept_fewer}
use Rattle.ink_stack.proofs.Tops.{popped_made}
use Rattle.ink_stack.proofs.running.Running.pop_away.Goals as goal

pub invariant_of-self : goal.invariant_of-self
invariant_of-self g c =
    kept_fewer c.pop_into.new.frame.kind c.self.inside.frame.kind c.pop_into.new.frame c.pop_into.new.self.items c.self.inside.below.items c.self.inside.quiet c.quiet_below-self-inside.result c.min-self-inside.result c.self.inside.settled
    refl c.pop_into.ensures.items c.quiet_below-self-inside.ensures (omega arith) (omega (arith, c.len.ensures)) c.self.invariant

pub returns-clause-thread : goal.returns-clause-thread
returns-clause-thread g c =
    let f = c.pop_into.new.frame in
    let rest = c.pop_into.new.self.items in
    let t : ThreadOf g.row.P.Denot = record { frame = c.self.inside.frame; below = reverse c.self.inside.below.items; previous = c.self.inside.previous } in
    let kind : same_kind t.frame.kind c.args.kind ≡ true = ap (λ v. same_kind v.thread.frame.kind c.args.kind) c.self.view_is ∙ c.in_ok-check_pop.ensures.same in
    let depth : t.frame.depth ≡ c.args.depth = ap (λ v. v.thread.frame.depth) c.self.view_is ∙ c.in_ok-check_pop.ensures.open in
    rw (← c.self.view_is)
    (popped_made c.args.kind c.args.depth t f f tt (reverse rest) kind depth
    (ap reverse c.pop_into.ensures.items ∙ reverse-append rest (f ∷ [])) refl)
