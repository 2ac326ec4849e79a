use Rattle.ink_out.proofs.Common.{Sees, output_back, with_open, GoesBack, trails-after, Trails, trail_of}
use Rattle.std.proofs.Common.{◌∙◌, length, subst}
use Rattle.ink_out.proofs.section.Section.extend.Goals as goal

pub returns-clause-trail : goal.returns-clause-trail
returns-clause-trail c = λ page.
    let made = c.make_room_for.new in
    trails-after output_back (length c.args.pieces.items) _ _ _ made.trail _ c.make_room_for.ensures.trail
    (subst (λ ms. Trails output_back (length c.args.pieces.items) (with_open ms page) made.trail (with_open c.append.new.marks.items page) c.append.new.trail) (c.make_room_for.ensures.marks ∙ c.self.view_is)
    (c.append.ensures.trail page))

pub invariant_of-self : goal.invariant_of-self
invariant_of-self c = rw (c.make_room_for.ensures.marks, c.make_room_for.ensures.settled) c.self.invariant

pub invariant_of-self-2 : goal.invariant_of-self-2
invariant_of-self-2 c = c.append.ensures.sees (rw (c.make_room_for.ensures.marks, c.make_room_for.ensures.settled) c.self.invariant)

pub returns-clause-back : goal.returns-clause-back
returns-clause-back c = λ page room held went.
    let ready = c.make_room_for.new in
    let sees : Sees ready.marks.items ready.settled.items c.self.inside.state c.self.inside.enters = rw (c.make_room_for.ensures.marks, c.make_room_for.ensures.settled) c.self.invariant in
    let before : GoesBack room (trail_of ready.trail.undo) (with_open ready.marks.items page) = rw (c.make_room_for.ensures.trail.0, c.make_room_for.ensures.marks, c.self.view_is) went in
    c.append.ensures.back sees page room held before
