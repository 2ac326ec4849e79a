use Rattle.std.proofs.Common.{◌∙◌, ap, refl}
use Rattle.ink_step.specs.Standing.{start_of, aside_in}
use Rattle.ink_step.proofs.Backs.{OwnAlone, few_pairs, own_goes_back, pairs_from, as_roomy, room_with}
use Rattle.ink_step.proofs.machine.Machine.back.Goals as goal

pub returns-clause-config : goal.returns-clause-config
returns-clause-config c s =
    let alone : OwnAlone c.args.self.now c.back_own-own.new.self = record { same = c.back_own-own.ensures.same } in
    rw (c.back-threads.ensures.cells, c.back-stack.ensures.cells, c.back-choices.ensures.cells, c.back-globals.ensures.cells, c.back-counts.ensures.cells, c.back-output.ensures.cells)
    (own_goes_back s c.args.self.now c.back_own-own.new.self alone c.back_own-own.ensures.own)

pub returns-clause-start : goal.returns-clause-start
returns-clause-start c = c.back-globals.ensures.aside ∙ ap start_of c.back_own-own.ensures.same

pub returns-clause-mark : goal.returns-clause-mark
returns-clause-mark c =
    rw (c.back_own-own.ensures.mark, c.back-threads.ensures.stood, c.back-stack.ensures.stood, c.back-choices.ensures.stood, c.back-globals.ensures.stood, c.back-counts.ensures.stood, c.back-output.ensures.stood) refl

pub returns-clause-pairs : goal.returns-clause-pairs
returns-clause-pairs c =
    let alone : OwnAlone c.args.self.now c.back_own-own.new.self = record { same = c.back_own-own.ensures.same } in
    rw (
      c.saturating_add-6.ensures,
      c.saturating_add-5.ensures,
      c.saturating_add-4.ensures,
      c.saturating_add-3.ensures,
      c.saturating_add-2.ensures,
      c.saturating_add.ensures,
      c.back-threads.ensures.len,
      c.back-stack.ensures.len,
      c.back-choices.ensures.len,
      c.back-globals.ensures.len,
      c.back-counts.ensures.len,
      c.back-output.ensures.len,
    )
    (pairs_from c.args.self.now c.back_own-own.new.self alone c.back_own-own.result c.back_own-own.ensures.len)

pub returns-clause-few : goal.returns-clause-few
returns-clause-few c =
    let alone : OwnAlone c.args.self.now c.back_own-own.new.self = record { same = c.back_own-own.ensures.same } in
    rw (c.saturating_add-6.ensures, c.saturating_add-5.ensures, c.saturating_add-4.ensures, c.saturating_add-3.ensures, c.saturating_add-2.ensures, c.saturating_add.ensures)
    (few_pairs c.args.self.now c.back_own-own.new.self alone _ _ _ _ _ _ _ c.back_own-own.ensures.writes c.back-threads.ensures.writes c.back-stack.ensures.writes c.back-choices.ensures.writes
    c.back-globals.ensures.writes c.back-counts.ensures.writes c.back-output.ensures.writes)

pub returns-clause-aside : goal.returns-clause-aside
returns-clause-aside c = ap aside_in c.back_own-own.ensures.same

pub returns-clause-room : goal.returns-clause-room
returns-clause-room c =
    let old = c.args.self.now in
    as_roomy old c.back_own-own.new.self (ap (room_with old.trail.room) c.back_own-own.ensures.same) _ _ _ _ _ _ _ c.back_own-own.ensures.room
    c.back-threads.ensures.trail.1 c.back-stack.ensures.trail.1 c.back-choices.ensures.trail.1 c.back-globals.ensures.trail.1 c.back-counts.ensures.trail.1 c.back-output.ensures.trail.1
