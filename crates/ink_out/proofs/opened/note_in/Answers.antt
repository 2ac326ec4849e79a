use Rattle.std.proofs.Common.{◌∙◌, arith, sym}
use Rattle.ink_out.proofs.Undoing.{on_ok, unmarked_spare, goes-now, goes-unmarked, held_page}
use Rattle.ink_out.proofs.opened.note_in.Goals as goal

pub returns-clause-spare : goal.returns-clause-spare
returns-clause-spare c =
    let room = unmarked_spare c.args.trail.now c.args.count (sym c.is_marked.ensures ∙ c.if-is_marked.false) (omega (arith, c.ranges.count.fits)) in
    on_ok c.note.result (omega (arith, room))

pub returns-clause-back : goal.returns-clause-back
returns-clause-back c = λ n room went.
    goes-unmarked room c.args.trail.now.undo _ (sym c.is_marked.ensures ∙ c.if-is_marked.false)
    (held_page room c.args.line.now _ c.args.sections.now _ n c.note.ensures.within c.note.auto.sections (goes-now room _ _ went))
