use Rattle.std.proofs.Common.{◌≡◌, ◌∙◌, sym, Some}
use Rattle.ink_line.proofs.Moments.{some_same}
use Rattle.ink_look.proofs.Steps.{stands_last, stands_past}
use Rattle.ink_look.proofs.looking.judge.Goals.{in-Some+else-last-newline, in_default}
use Rattle.ink_look.proofs.looking.judge.Goals as goal
use Rattle.ink_model.specs.Text.Shown.{open_newline}

pub returns-then-last-newline : goal.returns-then-last-newline
returns-then-last-newline c = stands_last c.args.output.now.page.line c.in-Some.last c.args.newline c.in-Some.ensures c.if-last-newline.true

pub returns-then-is_shown : goal.returns-then-is_shown
returns-then-is_shown c =
    let other : open_newline c.args.output.now.page.line ≡ Some c.args.newline → ⊥ =
    elim c.match-open_newline.branch [
      | in-Some+else-last-newline w ↦ λ e. w.if-last-newline.false (some_same w.in-Some.last c.args.newline (w.in-Some.ensures ∙ e))
      | in_default w ↦ λ e. (let none = w.in_default.ensures in absurd (cc))
    ] in
    stands_past c.args.output.now.page.line c.args.newline other (sym c.is_shown.ensures ∙ c.if-is_shown.true)
