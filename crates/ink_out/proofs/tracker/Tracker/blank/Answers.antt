use Rattle.std.proofs.Common.{◌≡◌, ◌||◌, true, rules}
use Rattle.std.specs.Option.{is_some}
use Rattle.std.proofs.lemmas.Bool.{or_left, or_right}
use Rattle.ink_out.proofs.Tracking.{blank_more}
use Rattle.ink_out.proofs.tracker.Tracker.blank.Goals as goal
use Rattle.ink_out.proofs.tracker.Tracker.blank.Goals.{then-self-via-then-self, then-self-via-else-self+then-is_some}

pub returns-then-self : goal.returns-then-self
returns-then-self c before text settled at t =
    let s = c.args.self.now in
    let h : (s.text || is_some s.blank) ≡ true =
    elim c.then-self.branch [
      | then-self-via-then-self w ↦ or_left s.text (is_some s.blank) (search rules)
      | then-self-via-else-self+then-is_some w ↦ or_right s.text (is_some s.blank) (search rules)
    ] in
    blank_more before text s settled h t
