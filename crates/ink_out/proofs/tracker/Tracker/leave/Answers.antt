use Rattle.ink_out.proofs.Tracking.{left}
use Rattle.ink_out.proofs.tracker.Tracker.leave.Goals as goal

pub returns : goal.returns
returns c before n settled e t = rw (c.newline_left-self.ensures, c.blank_left-self.ensures) (left before n c.args.reach c.args.self.now settled e t)
