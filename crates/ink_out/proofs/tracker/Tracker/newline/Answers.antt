use Rattle.std.proofs.Common.{◌≡◌, None, sym, ◌∙◌, arith, rules}
use Rattle.ink_out.proofs.Tracking.{newline_more, newline_next}
use Rattle.ink_out.proofs.tracker.Tracker.newline.Goals as goal

pub returns-then-is_some-clause-tracks : goal.returns-then-is_some-clause-tracks
returns-then-is_some-clause-tracks c before settled at t = newline_more before c.args.self.now settled (search rules) t

pub returns-in-Some-clause-tracks : goal.returns-in-Some-clause-tracks
returns-in-Some-clause-tracks c before settled at t =
    let none : c.args.self.now.newline ≡ None = grind arith in
    rw at (newline_next before c.args.self.now settled c.in-Some.hides none (sym c.hides_next.ensures ∙ c.in-Some.is) t)
