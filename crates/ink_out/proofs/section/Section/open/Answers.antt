use Rattle.std.proofs.Common.{◌≡◌, None, reverse, ap, ◌∙◌, arith}
use Rattle.ink_model.specs.Text.Shown.{open_newline}
use Rattle.ink_out.proofs.Answering.{open_waiting, open_tagged, open_nothing}
use Rattle.ink_out.proofs.section.Section.open.Goals as goal

pub returns-in_err-newline : goal.returns-in_err-newline
returns-in_err-newline c =
    let s = c.self.inside in
    let result : c.from_residual.result ≡ None = grind arith in
    result ∙ open_nothing s.marks.items (reverse s.settled.items) s.state c.in_err-newline.was c.self.invariant.stands ∙ ap open_newline c.self.view_is

pub returns-then-newline : goal.returns-then-newline
returns-then-newline c =
    let s = c.self.inside in
    open_tagged s.marks.items (reverse s.settled.items) s.state c.in_ok-newline.newline c.in_ok-newline.was c.if-newline.true c.self.invariant.stands
    ∙ ap open_newline c.self.view_is

pub returns : goal.returns
returns c =
    let s = c.self.inside in
    open_waiting s.marks.items (reverse s.settled.items) s.state c.in_ok-newline.newline c.in_ok-newline.was c.if-newline.false c.self.invariant.stands
    ∙ ap open_newline c.self.view_is
