use Rattle.std.proofs.Common.{◌≡◌, ◌∙◌, [], ◌∷◌, ◌++◌, ap, arith, length, refl}
use Rattle.ink_stack.proofs.Common.{length-append, length-reverse, frame_kind}
use Rattle.ink_stack.proofs.Bases.{call_is}
use Rattle.ink_stack.proofs.Keeping.{base_more, quiet_more}
use Rattle.ink_stack.proofs.running.Running.push.Goals as goal

pub invariant_of-self-2 : goal.invariant_of-self-2
invariant_of-self-2 g c =
    let items = c.self.inside.below.items in
    let f = c.self.inside.frame in
    let more : c.push_from.new.self.items ≡ items ++ f ∷ [] = c.push_from.ensures.items ∙ ap (λ fs. fs ++ f ∷ []) c.make_room.ensures.items in
    let kind : c.begin.new.self.kind ≡ frame_kind c.args.kind = ap (λ h. h.kind) c.begin.ensures ∙ c.frame_kind.ensures in
    rw more (
      omega (arith, c.frames.ensures.count, ap (λ v. length v.thread.below) c.self.view_is, length-reverse items, length-append items (f ∷ [])),
      quiet_more f items c.self.inside.quiet c.quiet_above-self-inside.result c.self.invariant.1 c.quiet_above-self-inside.ensures,
      base_more c.begin.new.self.kind (frame_kind c.args.kind) f f items kind refl (call_is c.args.kind, c.self.invariant.2),
      c.settled_above-self-inside.ensures items (omega (arith, c.len.ensures, ap length c.make_room.ensures.items)) c.self.invariant.3,
    )
