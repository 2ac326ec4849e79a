use Rattle.std.proofs.Common.{◌≡◌, ◌+◌, ◌≤◌, true, ◌-◌, ap, arith, get_or, length, length-set, refl}
use Rattle.ink_stack.proofs.Common.{length-reverse, frame_count, with_fresh}
use Rattle.ink_stack.proofs.Framing.{base_set, framed_below, framed_none}
use Rattle.ink_stack.proofs.Settling.{settled_set}
use Rattle.ink_stack.proofs.running.Running.freshen.Goals.{else-number-gt0-via-then-number-gt0+else-number-len-2, else-number-gt0-via-else-number-gt0}
use Rattle.ink_stack.proofs.running.Running.freshen.Goals as goal

pub invariant_of-self-then-number-len-2 : goal.invariant_of-self-then-number-len-2
invariant_of-self-then-number-len-2 g c =
    let items = c.self.inside.below.items in
    let d = c.self.inside.frame in
    let now = with_fresh true (get_or items (c.args.number - 1) d) in
    let within : c.args.number ≤ length items = omega arith in
    rw (c.freshen-then-number-len-2.ensures.items d) (
      rw length-set c.self.invariant.0,
      tt,
      base_set c.self.inside.frame.kind items c.args.number d now (omega arith) within refl c.self.invariant.2,
      settled_set c.self.inside.settled items (c.args.number - 1) d now refl c.self.invariant.3,
    )

pub returns-then-number-len-2 : goal.returns-then-number-len-2
returns-then-number-len-2 g c =
    let items = c.self.inside.below.items in
    let d = c.self.inside.frame in
    let within : c.args.number ≤ length items = omega arith in
    rw (← c.self.view_is)
    (rw (c.freshen-then-number-len-2.ensures.items d, c.freshen-then-number-len-2.ensures.room)
    (ap (λ t. record { thread = t; room = c.self.inside.below.room })
    (framed_below (with_fresh true) d items c.self.inside.previous c.args.number d (with_fresh true (get_or items (c.args.number - 1) d)) (omega arith) within refl)))

pub returns-else-number-gt0 : goal.returns-else-number-gt0
returns-else-number-gt0 g c =
    let t = c.args.self.now.thread in
    let count : frame_count t ≡ length c.self.inside.below.items + 1 = omega (arith, length-reverse c.self.inside.below.items, ap (λ v. length v.thread.below) c.self.view_is) in
    ap (λ t. record { thread = t; room = c.args.self.now.room }) (framed_none (with_fresh true) c.args.number t (elim c.else-number-gt0.branch [
      | else-number-gt0-via-then-number-gt0+else-number-len-2 w ↦ λ k less. omega (arith, count)
      | else-number-gt0-via-else-number-gt0 w ↦ λ k less. omega arith
    ]))
