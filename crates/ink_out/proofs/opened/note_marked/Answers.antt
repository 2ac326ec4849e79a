use Rattle.std.proofs.Common.{◌∙◌, arith, inr, refl}
use Rattle.ink_out.proofs.Common.{output_back, Wrote, trails-after, trails-one}
use Rattle.ink_out.proofs.Undoing.{goes-as, goes-now, goes-with, held_page, noted_back}
use Rattle.ink_out.proofs.opened.note_marked.Goals as goal

pub returns-then-is_full-clause-page : goal.returns-then-is_full-clause-page
returns-then-is_full-clause-page c = λ n. rw (c.is_full.ensures c.args.mark n ∙ c.if-is_full.true) (inr refl, refl)

pub returns-in_err-ready-clause-limit : goal.returns-in_err-ready-clause-limit
returns-in_err-ready-clause-limit c = λ n. rw (c.is_full.ensures c.args.mark n ∙ c.if-is_full.false) tt

pub returns-clause-trail : goal.returns-clause-trail
returns-clause-trail c = λ n.
    trails-after output_back 1 _ _ _ c.ready.new.self _ c.ready.ensures.kept
    (trails-one output_back (Wrote c.open_state-state.result) 1 _ _ _ _ (omega arith) (noted_back c.open_state-state.result c.args.mark _ _ (c.in_ok-note.ensures.page n).0) c.note-2.ensures.undo c.note-2.ensures.room)

pub returns-clause-back : goal.returns-clause-back
returns-clause-back c = λ n room went.
    rw c.note-2.ensures.undo
    (goes-with (Wrote c.open_state-state.result) 1 _ _ c.ready.new.self.undo room room (noted_back c.open_state-state.result c.args.mark _ _ (c.in_ok-note.ensures.page n).0)
    (held_page room c.args.line.now _ c.args.sections.now _ n c.in_ok-note.ensures.within c.note.auto.sections (goes-now room _ _ went))
    (c.open_state-state.ensures n) (omega arith)
    (goes-as room room _ _ _ _ c.ready.ensures.kept.0 refl (omega arith) went))

pub returns-clause-within : goal.returns-clause-within
returns-clause-within c = c.in_ok-note.ensures.within
