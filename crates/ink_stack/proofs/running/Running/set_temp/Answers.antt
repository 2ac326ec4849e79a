use Rattle.std.proofs.Common.{◌≡◌, ◌∙◌, ◌<◌, ◌≤◌, ◌-◌, IfOk, IfSome, OnOk, ap, arith, get_or, length, length-set, refl, reverse, subst, sym}
use Rattle.ink_stack.proofs.Common.{length-reverse, IfOk-weaker, temp_back, with_frame, text_of, ThreadOf, BaseFirst, IsQuiet, Settled}
use Rattle.ink_stack.proofs.Bases.{base_same, same_along}
use Rattle.ink_stack.proofs.Framing.{base_set, unframed_below}
use Rattle.ink_stack.proofs.Numbers.{memory_along, quiet_set, row_kept, row_made, set_either, temp_along, number_below, some_number}
use Rattle.ink_stack.proofs.Settling.{settled_set}
use Rattle.ink_stack.proofs.Tops.{back_top, memory_top, temp_top}
use Rattle.ink_model.specs.Flow.Threads.{frame_count, with_row_in, with_temp}
use Rattle.ink_stack.proofs.running.Running.set_temp.Goals as goal

pub invariant_of-self-2 : goal.invariant_of-self-2
invariant_of-self-2 g c =
    let items = c.self.inside.below.items in
    let d = c.self.inside.frame in
    let i = c.args.number - 1 in
    let now = c.set_temp-2.new.self.items in
    let name = text_of c.args.name in
    let within : c.args.number ≤ length items = omega (arith, length-reverse items, ap (λ t. length t.thread.below) c.self.view_is) in
    let inside : i < length items = omega (arith, c.requires.from) in
    let is = set_either c.set_temp-2.result items now i d inside (with_row_in name c.args.value (get_or items i d)) (c.set_temp-2.ensures.ok d) c.set_temp-2.ensures.err in
    let was = get_or items i d in
    let f = get_or now i d in
    let made = row_made c.set_temp-2.result items now i d inside name c.args.value (c.set_temp-2.ensures.ok d) in
    let kept = row_kept c.set_temp-2.result items now i d inside c.set_temp-2.ensures.err in
    let kind = same_along (λ h. h.kind) (λ h rows. refl) c.set_temp-2.result name c.args.value was f made kept in
    let fresh = same_along (λ h. h.fresh) (λ h rows. refl) c.set_temp-2.result name c.args.value was f made kept in
    let depth = same_along (λ h. h.depth) (λ h rows. refl) c.set_temp-2.result name c.args.value was f made kept in
    let number = same_along (λ h. h.enter) (λ h rows. refl) c.set_temp-2.result name c.args.value was f made kept in (
      omega (arith, ap length is ∙ length-set items i f, c.self.invariant.0),
      subst (λ fs. IfSome c.self.inside.quiet (λ n. IsQuiet n (reverse fs))) (sym is) (quiet_set items c.args.number d f c.self.inside.quiet c.requires.from within kind fresh depth c.self.invariant.1),
      subst (λ fs. BaseFirst d.kind (reverse fs)) (sym is) (base_set d.kind items c.args.number d f c.requires.from within kind c.self.invariant.2),
      subst (Settled c.self.inside.settled) (sym is) (settled_set c.self.inside.settled items i d f number c.self.invariant.3),
    )

pub returns-clause-ok : goal.returns-clause-ok
returns-clause-ok g c =
    let items = c.self.inside.below.items in
    let d = c.self.inside.frame in
    let i = c.args.number - 1 in
    let now = c.set_temp-2.new.self.items in
    let name = text_of c.args.name in
    let within : c.args.number ≤ length items = omega (arith, length-reverse items, ap (λ t. length t.thread.below) c.self.view_is) in
    let inside : i < length items = omega (arith, c.requires.from) in
    let is = set_either c.set_temp-2.result items now i d inside (with_row_in name c.args.value (get_or items i d)) (c.set_temp-2.ensures.ok d) c.set_temp-2.ensures.err in
    let made = row_made c.set_temp-2.result items now i d inside name c.args.value (c.set_temp-2.ensures.ok d) in
    rw (← c.self.view_is)
    (subst (λ fs. OnOk c.set_temp-2.result (record { frame = d; below = reverse fs; previous = c.self.inside.previous } ≡ with_temp c.args.number name c.args.value (record { frame = d; below = reverse items; previous = c.self.inside.previous }))) (sym is)
    (temp_along c.set_temp-2.result d items c.self.inside.previous c.args.number d name c.requires.from within c.args.value (get_or now i d) made))

pub returns-clause-memory : goal.returns-clause-memory
returns-clause-memory g c =
    let items = c.self.inside.below.items in
    let within : c.args.number ≤ length items = omega (arith, length-reverse items, ap (λ t. length t.thread.below) c.self.view_is) in
    rw (← c.self.view_is)
    (memory_along c.set_temp-2.result c.self.inside.frame items c.self.inside.previous c.args.number c.self.inside.frame (text_of c.args.name) c.requires.from within
    (c.set_temp-2.ensures.memory c.self.inside.frame))

pub returns-clause-back : goal.returns-clause-back
returns-clause-back g c =
    let items = c.self.inside.below.items in
    let d = c.self.inside.frame in
    let i = c.args.number - 1 in
    let now = c.set_temp-2.new.self.items in
    let name = text_of c.args.name in
    let within : c.args.number ≤ length items = omega (arith, length-reverse items, ap (λ t. length t.thread.below) c.self.view_is) in
    let inside : i < length items = omega (arith, c.requires.from) in
    let is = set_either c.set_temp-2.result items now i d inside (with_row_in name c.args.value (get_or items i d)) (c.set_temp-2.ensures.ok d) c.set_temp-2.ensures.err in
    rw (← c.self.view_is)
    (subst (λ fs. IfOk c.set_temp-2.result (λ was. with_frame (temp_back was.0 was.1) c.args.number (record { frame = d; below = reverse fs; previous = c.self.inside.previous }) ≡ record { frame = d; below = reverse items; previous = c.self.inside.previous })) (sym is)
    (IfOk-weaker c.set_temp-2.result _ _
    (λ was back. unframed_below (temp_back was.0 was.1) d items c.self.inside.previous c.args.number d (get_or now i d) c.requires.from within back)
    (c.set_temp-2.ensures.back d)))

pub invariant_of-self : goal.invariant_of-self
invariant_of-self g c =
    let now = c.set_temp.new.self in
    let kind = same_along (λ h. h.kind) (λ h rows. refl) c.set_temp.result (text_of c.args.name) c.args.value c.self.inside.frame now c.set_temp.ensures.ok c.set_temp.ensures.err in
    (c.self.invariant.0, c.self.invariant.1, base_same c.self.inside.frame.kind now.kind (reverse c.self.inside.below.items) kind c.self.invariant.2, c.self.invariant.3)

pub returns-then-number-frames-clause-ok : goal.returns-then-number-frames-clause-ok
returns-then-number-frames-clause-ok g c =
    let top : c.args.number ≡ frame_count c.args.self.now.thread = c.if-number-frames.true ∙ c.frames.ensures.count in
    let t : ThreadOf g.row.P.Denot = record { frame = c.self.inside.frame; below = reverse c.self.inside.below.items; previous = c.self.inside.previous } in
    rw (← c.self.view_is) (temp_top c.set_temp.result t c.args.number (text_of c.args.name) c.args.value c.set_temp.new.self (top ∙ ap (λ v. frame_count v.thread) (sym c.self.view_is)) c.set_temp.ensures.ok)

pub returns-then-number-frames-clause-memory : goal.returns-then-number-frames-clause-memory
returns-then-number-frames-clause-memory g c =
    let top : c.args.number ≡ frame_count c.args.self.now.thread = c.if-number-frames.true ∙ c.frames.ensures.count in
    let t : ThreadOf g.row.P.Denot = record { frame = c.self.inside.frame; below = reverse c.self.inside.below.items; previous = c.self.inside.previous } in
    rw (← c.self.view_is) (memory_top c.set_temp.result t c.args.number (text_of c.args.name) (top ∙ ap (λ v. frame_count v.thread) (sym c.self.view_is)) c.set_temp.ensures.memory)

pub returns-then-number-frames-clause-back : goal.returns-then-number-frames-clause-back
returns-then-number-frames-clause-back g c =
    let top : c.args.number ≡ frame_count c.args.self.now.thread = c.if-number-frames.true ∙ c.frames.ensures.count in
    let t : ThreadOf g.row.P.Denot = record { frame = c.self.inside.frame; below = reverse c.self.inside.below.items; previous = c.self.inside.previous } in
    rw (← c.self.view_is) (back_top c.set_temp.result t c.args.number c.set_temp.new.self (top ∙ ap (λ v. frame_count v.thread) (sym c.self.view_is)) c.set_temp.ensures.back)

pub set_temp-requires-2 : goal.set_temp-requires-2
set_temp-requires-2 g c =
    number_below c.args.self.now.thread c.self.inside.below.items c.args.number (ap (λ v. v.thread.below) c.self.view_is)
    c.requires.there (λ is. c.if-number-frames.false (is ∙ sym c.frames.ensures.count)) (some_number c.args.number c.requires.from)
