use Rattle.std.proofs.Common.{rules}
use Rattle.ink_out.proofs.Tracking.{left_as_is}
use Rattle.ink_out.proofs.tracker.Tracker.end.Goals as goal

pub returns-then-waits : goal.returns-then-waits
returns-then-waits c before settled knows t = c.leave.ensures before c.args.number settled (c.reach.ensures before knows) t

pub returns-else-waits : goal.returns-else-waits
returns-else-waits c before settled knows t = left_as_is before c.args.number c.args.self.now settled (search rules) t
