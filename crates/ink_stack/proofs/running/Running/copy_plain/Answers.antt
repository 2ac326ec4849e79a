use Rattle.std.proofs.Common.{◌≡◌, IfSome, ap, reverse, subst}
use Rattle.ink_stack.proofs.Common.{BaseFirst, ThreadOf, IsQuiet, Settled}
use Rattle.ink_stack.proofs.Bases.{base_same}
use Rattle.ink_stack.proofs.Plain.{plain_same, none_same}
use Rattle.ink_stack.specs.Running.{IsPlain}
use Rattle.ink_stack.proofs.running.Running.copy_plain.Goals as goal

pub returns-clause-thread : goal.returns-clause-thread
returns-clause-thread g c =
    let t : ThreadOf g.row.P.Denot = record { frame = c.self.inside.frame; below = reverse c.self.inside.below.items; previous = c.self.inside.previous } in
    let u : ThreadOf g.row.P.Denot = record { frame = c.other.inside.frame; below = reverse c.other.inside.below.items; previous = c.other.inside.previous } in
    let own : IsPlain t = rw (← c.self.view_is) at c.requires.own in
    let other : IsPlain u = rw (← c.other.view_is) at c.requires.other in
    rw (← c.other.view_is, c.copy_header.ensures) (plain_same t u own other)

pub invariant_of-self : goal.invariant_of-self
invariant_of-self g c =
    let items = c.self.inside.below.items in
    let others = c.other.inside.below.items in
    let own = rw (← c.self.view_is) at c.requires.own.below in
    let other = rw (← c.other.view_is) at c.requires.other.below in
    let same : others ≡ items = none_same items others own other in (
      c.self.invariant.0,
      subst (λ fs. IfSome c.other.inside.quiet (λ n. IsQuiet n (reverse fs))) same c.other.invariant.1,
      base_same c.other.inside.frame.kind c.copy_header.new.self.kind (reverse items) (ap (λ f. f.kind) c.copy_header.ensures) (subst (λ fs. BaseFirst c.other.inside.frame.kind (reverse fs)) same c.other.invariant.2),
      subst (λ fs. Settled c.other.inside.settled fs) same c.other.invariant.3,
    )
