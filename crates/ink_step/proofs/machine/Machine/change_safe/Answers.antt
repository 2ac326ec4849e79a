use Rattle.std.proofs.Common.{◌∙◌}
use Rattle.ink_step.proofs.Owned.{own_changed, own_unnoted}
use Rattle.ink_step.proofs.machine.Machine.change_safe.Goals as goal

pub returns-clause-mark : goal.returns-clause-mark
returns-clause-mark c = c.set_safe.ensures.mark ∙ c.make_own_room.ensures.mark

-- ---- the own fields

pub returns-in_err-make_own_room-clause-own : goal.returns-in_err-make_own_room-clause-own
returns-in_err-make_own_room-clause-own c = own_unnoted 1 _ _ c.make_own_room.ensures.kept

pub returns-clause-own : goal.returns-clause-own
returns-clause-own c = own_changed 1 _ _ _ _ _ c.make_own_room.ensures.kept c.set_safe.ensures.trail
