use Rattle.std.proofs.Common.{◌∙◌, ap}
use Rattle.ink_step.specs.Marks.{Stood, own_stood, unmarked}
use Rattle.ink_step.proofs.Common.{aside_in, config_of, Machine}
use Rattle.ink_step.proofs.Backs.{as_roomy, room_with}
use Rattle.ink_step.proofs.machine.Machine.forget.Goals as goal

pub returns-clause-config : goal.returns-clause-config
returns-clause-config c s = rw (c.forget.ensures.cells, c.forget-2.ensures.cells, c.forget-3.ensures.cells, c.forget-4.ensures.cells, c.forget-5.ensures.cells, c.forget-6.ensures.cells) (ap (config_of s) c.forget_own.ensures.same)

pub returns-clause-aside : goal.returns-clause-aside
returns-clause-aside c = ap aside_in c.forget_own.ensures.same

pub returns-clause-mark : goal.returns-clause-mark
returns-clause-mark c =
    let old = c.args.self.now in
    let trail = c.forget_own.new.self.trail in
    let here : Machine → Stood = λ m. record unmarked { own = own_stood trail m.shared.turn m.flow.safe } in
    rw (c.forget.ensures.stood, c.forget-2.ensures.stood, c.forget-3.ensures.stood, c.forget-4.ensures.stood, c.forget-5.ensures.stood, c.forget-6.ensures.stood)
    (ap here c.forget_own.ensures.same ∙ ap (λ o. record unmarked { own = o }) c.forget_own.ensures.mark)

pub returns-clause-room : goal.returns-clause-room
returns-clause-room c =
    let old = c.args.self.now in
    as_roomy old c.forget_own.new.self (ap (room_with old.trail.room) c.forget_own.ensures.same) _ _ _ _ _ _ _ c.forget_own.ensures.room
    c.forget.ensures.trail.1 c.forget-2.ensures.trail.1 c.forget-3.ensures.trail.1 c.forget-4.ensures.trail.1 c.forget-5.ensures.trail.1 c.forget-6.ensures.trail.1
