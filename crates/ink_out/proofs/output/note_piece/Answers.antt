use Rattle.ink_out.proofs.Undoing.{or_keeps}
use Rattle.ink_out.proofs.output.note_piece.Goals as goal

pub returns-in_err-note_in-clause-trail : goal.returns-in_err-note_in-clause-trail
returns-in_err-note_in-clause-trail c = λ n.
    let kept = c.in_err-note_in.ensures.trail n in
    or_keeps c.from_residual-in_err-note_in.result _ 1 _ _ _ _ c.from_residual-in_err-note_in.ensures.1 kept.0 kept.1
