use Rattle.ink_model.specs.Text.Output.{writes_tag}
use Rattle.ink_out.proofs.Closing.{hands_nothing, whole_refused}
use Rattle.ink_trail.proofs.Undoing.{trails-none}
use Rattle.ink_out.specs.Undo.{output_back}
use Rattle.std.proofs.Common.{arith, refl, ap}
use Rattle.ink_out.proofs.Marks.{spare_after, stood_after}
use Rattle.ink_out.proofs.output.Output.tag.Goals as goal

pub returns-in_err-note-clause-stood : goal.returns-in_err-note-clause-stood
returns-in_err-note-clause-stood c = rw (← c.self.view_is) (stood_after c.note.result 1 _ _ c.note.ensures.trail)

pub returns-in_err-note-clause-spare : goal.returns-in_err-note-clause-spare
returns-in_err-note-clause-spare c = rw (← c.self.view_is) (spare_after c.note.result 1 _ _ c.note.ensures.trail)

pub returns-clause-stood : goal.returns-clause-stood
returns-clause-stood c = rw (← c.self.view_is) (stood_after c.note.result 1 _ _ c.note.ensures.trail)

pub returns-clause-spare : goal.returns-clause-spare
returns-clause-spare c = rw (← c.self.view_is) (spare_after c.note.result 1 _ _ c.note.ensures.trail)

pub returns-clause-trail : goal.returns-clause-trail
returns-clause-trail c = rw (← c.self.view_is) c.in_ok-note.ensures.trail

pub returns-then-in_string-clause-trail : goal.returns-then-in_string-clause-trail
returns-then-in_string-clause-trail c = rw (← c.self.view_is) (trails-none output_back 1 _ _ _ _ refl refl (omega arith))

pub returns-in_err-text-clause-page : goal.returns-in_err-text-clause-page
returns-in_err-text-clause-page c =
    let page = c.args.self.now.page in
    let f = c.in_err-text.field-0.0 in
    hands_nothing (writes_tag c.args.text.now page) page _ f c.from_residual.result (ap (λ w. w.page) c.self.view_is) c.from_residual.ensures.1 (whole_refused page c.args.text.now f c.in_err-text.ensures)
