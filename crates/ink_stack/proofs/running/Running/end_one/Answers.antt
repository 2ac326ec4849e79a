use Rattle.std.proofs.Common.{◌∙◌, ◌≤◌, ◌-◌, true, ap, arith, get_or, length, length-set, refl, reverse, set, sym}
use Rattle.std.proofs.lemmas.Bool.{OnFalse_at, OnFalse_from, OnTrue_at, OnTrue_from}
use Rattle.std.proofs.lemmas.List.{length-reverse, set-get_or}
use Rattle.ink_stack.proofs.Common.{stale, with_fresh, ThreadOf}
use Rattle.ink_stack.proofs.Bases.{stale_kind, base_same}
use Rattle.ink_stack.proofs.Framing.{base_set, framed_below, unframed_below, framed_top}
use Rattle.ink_stack.proofs.Settling.{settled_set, stale_number}
use Rattle.ink_stack.proofs.running.Running.end_one.Goals as goal

pub invariant_of-self-2 : goal.invariant_of-self-2
invariant_of-self-2 g c =
    let items = c.self.inside.below.items in
    let d = c.self.inside.frame in
    let was = get_or items (c.args.number - 1) d in
    let now = stale c.args.depth was in
    let within : c.args.number ≤ length items = omega (arith, length-reverse items, ap (λ t. length t.thread.below) c.self.view_is) in
    rw (c.end_one-2.ensures.items d) (
      rw length-set c.self.invariant.0,
      tt,
      base_set c.self.inside.frame.kind items c.args.number d now c.requires.from within (stale_kind c.args.depth was) c.self.invariant.2,
      settled_set c.self.inside.settled items (c.args.number - 1) d now (stale_number c.args.depth was) c.self.invariant.3,
    )

pub returns-clause-running : goal.returns-clause-running
returns-clause-running g c =
    let items = c.self.inside.below.items in
    let d = c.self.inside.frame in
    let within : c.args.number ≤ length items = omega (arith, length-reverse items, ap (λ t. length t.thread.below) c.self.view_is) in
    rw (← c.self.view_is)
    (rw (c.end_one-2.ensures.items d, c.end_one-2.ensures.room)
    (ap (λ t. record { thread = t; room = c.self.inside.below.room })
    (framed_below (stale c.args.depth) d items c.self.inside.previous c.args.number d (stale c.args.depth (get_or items (c.args.number - 1) d)) c.requires.from within refl)))

pub returns-clause-ended : goal.returns-clause-ended
returns-clause-ended g c =
    let items = c.self.inside.below.items in
    let d = c.self.inside.frame in
    let within : c.args.number ≤ length items = omega (arith, length-reverse items, ap (λ t. length t.thread.below) c.self.view_is) in
    rw (← c.self.view_is)
    (rw (c.end_one-2.ensures.items d)
    (OnTrue_from c.end_one-2.result _
    (λ e. unframed_below (with_fresh true) d items c.self.inside.previous c.args.number d (stale c.args.depth (get_or items (c.args.number - 1) d)) c.requires.from within
    (OnTrue_at e (c.end_one-2.ensures.ended d)))))

pub returns-clause-kept : goal.returns-clause-kept
returns-clause-kept g c =
    let items = c.self.inside.below.items in
    let d = c.self.inside.frame in
    let i = c.args.number - 1 in
    rw (← c.self.view_is)
    (OnFalse_from c.end_one-2.result _
    (λ e. ap (λ fs. record { frame = d; below = reverse fs; previous = c.self.inside.previous })
    (c.end_one-2.ensures.items d ∙ ap (λ f. set items i f) (OnFalse_at e (c.end_one-2.ensures.kept d)) ∙ set-get_or items i d)))

pub invariant_of-self : goal.invariant_of-self
invariant_of-self g c =
    let now = c.end_one.new.self in
    let kind = ap (λ f. f.kind) c.end_one.ensures.frame ∙ stale_kind c.args.depth c.self.inside.frame in
    (c.self.invariant.0, c.self.invariant.1, base_same c.self.inside.frame.kind now.kind (reverse c.self.inside.below.items) kind c.self.invariant.2, c.self.invariant.3)

pub returns-then-number-len-clause-running : goal.returns-then-number-len-clause-running
returns-then-number-len-clause-running g c =
    let items = c.self.inside.below.items in
    let t : ThreadOf g.row.P.Denot = record { frame = c.self.inside.frame; below = reverse items; previous = c.self.inside.previous } in
    rw (← c.self.view_is)
    (ap (λ u. record { thread = u; room = c.self.inside.below.room })
    (ap (λ f. record t { frame = f }) c.end_one.ensures.frame ∙ sym (framed_top (stale c.args.depth) c.args.number t (omega (arith, length-reverse items)))))

pub returns-then-number-len-clause-ended : goal.returns-then-number-len-clause-ended
returns-then-number-len-clause-ended g c =
    let items = c.self.inside.below.items in
    let t : ThreadOf g.row.P.Denot = record { frame = c.self.inside.frame; below = reverse items; previous = c.self.inside.previous } in
    rw (← c.self.view_is)
    (OnTrue_from c.end_one.result _
    (λ e. framed_top (with_fresh true) c.args.number (record t { frame = c.end_one.new.self }) (omega (arith, length-reverse items))
    ∙ ap (λ f. record t { frame = f }) (OnTrue_at e c.end_one.ensures.ended)))
