use Rattle.std.proofs.Common.{ap, refl}
use Rattle.ink_step.specs.Marks.{stood_of}
use Rattle.ink_step.proofs.Backs.{own_kept}
use Rattle.ink_step.proofs.machine.Machine.make_room.Goals as goal

pub returns-clause-config : goal.returns-clause-config
returns-clause-config c s = rw (c.make_room-2.ensures.cells, c.make_room-3.ensures.cells, c.make_room-4.ensures.cells, c.make_room-5.ensures.cells, c.make_room-6.ensures.cells, c.make_room-7.ensures.cells) refl

pub returns-clause-mark : goal.returns-clause-mark
returns-clause-mark c =
    let old = c.args.self.now in
    rw (c.make_room-2.ensures.stood, c.make_room-3.ensures.stood, c.make_room-4.ensures.stood, c.make_room-5.ensures.stood, c.make_room-6.ensures.stood, c.make_room-7.ensures.stood)
    (ap (λ o. record (stood_of old) { own = o }) (own_kept old.trail c.make_room.new.self old.shared.turn old.flow.safe c.make_room.ensures.kept))
