use Rattle.std.proofs.Common.{◌≡◌, ◌∙◌, ◌<◌, ap, arith, is_some, rules, sym, true}
use Rattle.ink_trail.proofs.Parting.{spare-marked, spare-room}
use Rattle.ink_trail.proofs.Undoing.{stood-marked}
use Rattle.ink_trail.proofs.undo.Undo.ready.Goals as goal
use Rattle.ink_trail.proofs.undo.Undo.ready.Goals.{else-is_marked-via-then-is_marked+else-room-count, else-is_marked-via-else-is_marked}

pub returns-then-room-count-clause-ok : goal.returns-then-room-count-clause-ok
returns-then-room-count-clause-ok g c =
    let new = c.make_room.new.self in
    rw (g.met.Self.Undo.spare_is new) (search (rules, arith, c.make_room.ensures.ok, spare-room c.args.count (g.Self.Undo.trail new)))

pub returns-then-room-count-clause-memory : goal.returns-then-room-count-clause-memory
returns-then-room-count-clause-memory g c =
    let part = g.Self.Undo in
    let old = c.args.self.now in
    let some : is_some (part.stood old) ≡ true = sym c.is_marked.ensures ∙ c.if-is_marked.true in
    let marked : is_some (part.trail old).undo ≡ true = sym (stood-marked part.before (part.trail old) (part.cells old)) ∙ ap is_some (sym (g.met.Self.Undo.stood_is old)) ∙ some in
    let less : part.spare old < c.args.count =
    omega (arith, g.met.Self.Undo.spare_is old, spare-marked (part.trail old) marked, c.room.ensures, c.if-room-count.true) in
    search (rules, some, less)

pub returns-clause-ok : goal.returns-clause-ok
returns-clause-ok g c =
    let part = g.Self.Undo in
    let old = c.args.self.now in
    let is : is_some (part.trail old).undo ≡ c.is_marked.result =
    sym (stood-marked part.before (part.trail old) (part.cells old)) ∙ ap is_some (sym (g.met.Self.Undo.stood_is old)) ∙ sym c.is_marked.ensures in
    rw (g.met.Self.Undo.spare_is old) (spare-room c.args.count (part.trail old) c.ranges.count.fits (λ some. elim c.else-is_marked.branch [
      | else-is_marked-via-then-is_marked+else-room-count w ↦ omega (arith, w.room.ensures, w.if-room-count.false)
      | else-is_marked-via-else-is_marked w ↦ absurd (cc (sym is ∙ some, w.if-is_marked.false))
    ]))
