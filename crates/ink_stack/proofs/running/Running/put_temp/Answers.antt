use Rattle.std.proofs.Common.{◌≡◌, ◌∙◌, ap, refl, reverse, sym}
use Rattle.ink_stack.proofs.Common.{ThreadOf, text_of}
use Rattle.ink_stack.proofs.Bases.{base_same, same_along}
use Rattle.ink_stack.proofs.Tops.{memory_top, temp_top}
use Rattle.ink_model.specs.Flow.Threads.{frame_count}
use Rattle.ink_stack.proofs.running.Running.put_temp.Goals as goal

pub invariant_of-self : goal.invariant_of-self
invariant_of-self g c =
    let now = c.put_temp.new.self in
    let kind = same_along (λ h. h.kind) (λ h rows. refl) c.put_temp.result (text_of c.args.name) c.args.value c.self.inside.frame now c.put_temp.ensures.ok c.put_temp.ensures.err in
    (c.self.invariant.0, c.self.invariant.1, base_same c.self.inside.frame.kind now.kind (reverse c.self.inside.below.items) kind c.self.invariant.2, c.self.invariant.3)

pub returns-then-number-frames-clause-ok : goal.returns-then-number-frames-clause-ok
returns-then-number-frames-clause-ok g c =
    let top : c.args.number ≡ frame_count c.args.self.now.thread = c.if-number-frames.true ∙ c.frames.ensures.count in
    let t : ThreadOf g.row.P.Denot = record { frame = c.self.inside.frame; below = reverse c.self.inside.below.items; previous = c.self.inside.previous } in
    rw (← c.self.view_is) (temp_top c.put_temp.result t c.args.number (text_of c.args.name) c.args.value c.put_temp.new.self (top ∙ ap (λ v. frame_count v.thread) (sym c.self.view_is)) c.put_temp.ensures.ok)

pub returns-then-number-frames-clause-memory : goal.returns-then-number-frames-clause-memory
returns-then-number-frames-clause-memory g c =
    let top : c.args.number ≡ frame_count c.args.self.now.thread = c.if-number-frames.true ∙ c.frames.ensures.count in
    let t : ThreadOf g.row.P.Denot = record { frame = c.self.inside.frame; below = reverse c.self.inside.below.items; previous = c.self.inside.previous } in
    rw (← c.self.view_is) (memory_top c.put_temp.result t c.args.number (text_of c.args.name) (top ∙ ap (λ v. frame_count v.thread) (sym c.self.view_is)) c.put_temp.ensures.memory)
