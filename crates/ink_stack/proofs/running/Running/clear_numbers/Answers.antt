use Rattle.std.proofs.Common.{ap, arith, refl, reverse, subst}
use Rattle.std.proofs.lemmas.List.{length-map}
use Rattle.ink_stack.proofs.Common.{BaseFirst, unnumbered_frame}
use Rattle.ink_stack.proofs.Bases.{base_same, base_unnumbered}
use Rattle.ink_stack.proofs.Quietness.{quiet_unnumbered}
use Rattle.ink_stack.proofs.Reversing.{map-reverse}
use Rattle.ink_stack.proofs.Settling.{settled_all, settled_same}
use Rattle.ink_stack.proofs.running.Running.clear_numbers.Goals as goal

pub returns-then-self-len : goal.returns-then-self-len
returns-then-self-len g c = rw (← c.self.view_is) (rw (c.set_number.ensures, c.clear_numbers.ensures.items, c.clear_numbers.ensures.room, map-reverse) refl)

-- no frame below has a number
pub returns-else-self-len : goal.returns-else-self-len
returns-else-self-len g c =
    let below = c.self.inside.below.items in
    let same = settled_same c.self.inside.settled below (omega (arith, c.len.ensures)) c.self.invariant.3 in
    rw (← c.self.view_is) (rw (c.set_number.ensures, map-reverse, same) refl)

pub invariant_of-self : goal.invariant_of-self
invariant_of-self g c =
    let old = c.self.inside.below.items in
    rw c.clear_numbers.ensures.items (
      rw length-map c.self.invariant.0,
      rw (← map-reverse unnumbered_frame old) (quiet_unnumbered c.self.inside.quiet (reverse old) c.self.invariant.1),
      subst (λ fs. BaseFirst c.set_number.new.self.kind fs) (map-reverse unnumbered_frame old)
          (base_unnumbered c.set_number.new.self.kind (reverse old) (base_same c.self.inside.frame.kind c.set_number.new.self.kind (reverse old) (ap (λ f. f.kind) c.set_number.ensures) c.self.invariant.2)),
      rw (c.len-self-inside.ensures, c.clear_numbers.ensures.items, length-map) (settled_all old),
    )
