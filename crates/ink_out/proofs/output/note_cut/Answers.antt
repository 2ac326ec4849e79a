use Rattle.std.proofs.Common.{◌≡◌, ◌∙◌, ap, length, subst, sym}
use Rattle.std.proofs.lemmas.List.{length-map}
use Rattle.ink_out.proofs.Common.{cut, let_through, piece_mark, output_back, page_of, Trails}
use Rattle.ink_out.proofs.Undoing.{or_keeps}
use Rattle.ink_out.proofs.output.note_cut.Goals as goal

pub returns-in_err-note_all-clause-trail : goal.returns-in_err-note_all-clause-trail
returns-in_err-note_all-clause-trail c = λ n.
    let kept = c.in_err-note_all.ensures.trail n in
    or_keeps c.from_residual-in_err-note_all.result _ _ _ _ _ _ c.from_residual-in_err-note_all.ensures.1 kept.0 kept.1

pub returns-clause-trail : goal.returns-clause-trail
returns-clause-trail c = λ n.
    let pieces = c.in_ok-pieces-2.pieces.items in
    let count : length pieces ≡ length (let_through c.args.fresh (cut c.args.text.now)) =
    sym (length-map pieces piece_mark) ∙ ap length (c.in_ok-pieces-2.ensures ∙ ap (let_through c.args.fresh) c.in_ok-pieces.ensures) in
    subst (λ k. Trails output_back k (page_of c.args.line.now c.args.sections.now n) c.args.trail.now (page_of c.note_all.new.line c.note_all.new.sections n) c.note_all.new.trail) count
    (c.in_ok-note_all.ensures.trail n)
