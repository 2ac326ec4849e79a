use Rattle.std.proofs.Common.{◌∙◌, [], ◌∷◌, ap, arith, length, refl, reverse}
use Rattle.ink_stack.proofs.Common.{length-append, length-reverse, reverse-append, ThreadOf, unpopped}
use Rattle.ink_stack.proofs.Keeping.{base_more, quiet_more}
use Rattle.ink_stack.proofs.Staling.{running_is}
use Rattle.ink_stack.proofs.running.Running.unpop.Goals as goal

pub invariant_of-self : goal.invariant_of-self
invariant_of-self g c =
    let items = c.self.inside.below.items in
    let f = c.replace-under.result in
    let within = rw (← c.self.view_is) at c.requires.base in
    rw c.push_reserved.ensures.items (
      omega (arith, c.requires.few, ap (λ v. length v.thread.below) c.self.view_is, length-reverse items, length-append items (f ∷ [])),
      quiet_more f items c.self.inside.quiet c.quiet_above-self-inside.result c.self.invariant.1 c.quiet_above-self-inside.ensures,
      base_more c.replace-under.new.dest.kind c.args.frame.kind f c.self.inside.frame items (ap (λ h. h.kind) c.replace-under.ensures.after) c.replace-under.ensures.value within,
      c.settled_above-self-inside.ensures items (omega (arith, c.len.ensures)) c.self.invariant.3,
    )

pub returns : goal.returns
returns g c =
    let items = c.self.inside.below.items in
    let f = c.replace-under.result in
    let t : ThreadOf g.row.P.Denot = record { frame = c.self.inside.frame; below = reverse items; previous = c.self.inside.previous } in
    rw (← c.self.view_is)
    (running_is (record { thread = record { frame = c.replace-under.new.dest; below = reverse c.push_reserved.new.self.items; previous = c.self.inside.previous }; room = c.push_reserved.new.self.room })
    (unpopped c.args.frame t) c.self.inside.below.room c.replace-under.ensures.after
    (ap reverse c.push_reserved.ensures.items ∙ reverse-append items (f ∷ []) ∙ ap (λ h. h ∷ reverse items) c.replace-under.ensures.value) refl c.push_reserved.ensures.room)

pub push_reserved-requires : goal.push_reserved-requires
push_reserved-requires g c = rw c.replace-under.ensures.value (rw (← c.self.view_is) at c.requires.fit)
