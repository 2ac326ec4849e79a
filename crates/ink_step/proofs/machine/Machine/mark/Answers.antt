use Rattle.std.proofs.Common.{◌∙◌, ap, refl}
use Rattle.ink_step.specs.Marks.{Stood, own_stood, marked_at}
use Rattle.ink_step.proofs.Common.{aside_in, config_of, Machine}
use Rattle.ink_step.proofs.Backs.{as_roomy, room_with}
use Rattle.ink_step.proofs.machine.Machine.mark.Goals as goal

pub returns-clause-config : goal.returns-clause-config
returns-clause-config c s = rw (c.mark.ensures.cells, c.mark-2.ensures.cells, c.mark-3.ensures.cells, c.mark-4.ensures.cells, c.mark-5.ensures.cells, c.mark-6.ensures.cells) (ap (config_of s) c.mark_own.ensures.same)

pub returns-clause-aside : goal.returns-clause-aside
returns-clause-aside c = ap aside_in c.mark_own.ensures.same

pub returns-clause-mark : goal.returns-clause-mark
returns-clause-mark c =
    let old = c.args.self.now in
    let trail = c.mark_own.new.self.trail in
    let here : Machine → Stood = λ m. record (marked_at m) { own = own_stood trail m.shared.turn m.flow.safe } in
    rw (c.mark.ensures.stood, c.mark-2.ensures.stood, c.mark-3.ensures.stood, c.mark-4.ensures.stood, c.mark-5.ensures.stood, c.mark-6.ensures.stood)
    (ap here c.mark_own.ensures.same ∙ ap (λ o. record (marked_at old) { own = o }) c.mark_own.ensures.mark)

pub returns-clause-room : goal.returns-clause-room
returns-clause-room c =
    let old = c.args.self.now in
    as_roomy old c.mark_own.new.self (ap (room_with old.trail.room) c.mark_own.ensures.same) _ _ _ _ _ _ _ c.mark_own.ensures.room
    c.mark.ensures.trail.1 c.mark-2.ensures.trail.1 c.mark-3.ensures.trail.1 c.mark-4.ensures.trail.1 c.mark-5.ensures.trail.1 c.mark-6.ensures.trail.1

pub returns-clause-writes : goal.returns-clause-writes
returns-clause-writes c = rw (c.mark_own.ensures.writes, c.mark.ensures.trail.0, c.mark-2.ensures.trail.0, c.mark-3.ensures.trail.0, c.mark-4.ensures.trail.0, c.mark-5.ensures.trail.0, c.mark-6.ensures.trail.0) refl
