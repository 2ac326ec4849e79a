use Rattle.std.proofs.Common.{◌∙◌, ap, refl}
use Rattle.ink_step.proofs.Common.{aside_in, config_of, Machine}
use Rattle.ink_step.specs.Marks.{own_of}
use Rattle.ink_step.proofs.machine.Machine.make_choosing_room.Goals as goal

pub returns-clause-config : goal.returns-clause-config
returns-clause-config c s = ap (config_of s) c.make_own_room.ensures.same ∙ rw (c.ready_threads.ensures.threads, c.ready_choices.ensures.items) refl

pub returns-clause-items : goal.returns-clause-items
returns-clause-items c = ap (λ (m : Machine). m.flow.choices.items) c.make_own_room.ensures.same ∙ c.ready_choices.ensures.items

pub returns-clause-aside : goal.returns-clause-aside
returns-clause-aside c = ap aside_in c.make_own_room.ensures.same

pub returns-clause-mark : goal.returns-clause-mark
returns-clause-mark c = c.make_own_room.ensures.mark ∙ rw (c.ready_threads.ensures.stood, c.ready_choices.ensures.stood) refl

pub returns-clause-same : goal.returns-clause-same
returns-clause-same c = ap own_of c.make_own_room.ensures.same
