use Rattle.std.proofs.Common.{◌∙◌, ◌≤◌, ap, arith, subst, sym}
use Rattle.ink_out.proofs.Common.{output_back, output_spare, page_of, trails-one, trails-trails, spare}
use Rattle.ink_out.specs.declared.undo.OutputPair.TheVariants.{Line, Sections}
use Rattle.ink_out.proofs.output.Output.clear_marked.Goals as goal

pub note-requires-clause-spare : goal.note-requires-clause-spare
unfolding output_spare
note-requires-clause-spare c =
    let room = subst (λ w. 2 ≤ spare w.trail) (sym c.self.view_is) c.requires.room in
    omega (arith, room)

pub note-requires-2-clause-spare : goal.note-requires-2-clause-spare
unfolding output_spare
note-requires-2-clause-spare c =
    let room = subst (λ w. 2 ≤ spare w.trail) (sym c.self.view_is) c.requires.room in
    omega (arith, room, c.note.ensures.spare)

pub returns-clause-trail : goal.returns-clause-trail
returns-clause-trail c =
    let s = c.self.inside in
    let list = c.replace-sections.result in
    let none = c.replace-sections.new.dest.items in
    rw (← c.self.view_is) (trails-trails output_back 1 1 _ (page_of s.line none s.next_enter) _ _ c.note.new.self _
    (trails-one output_back (Sections list) 1 _ _ _ _ (omega arith) (ap (λ v. page_of s.line v.items s.next_enter) c.replace-sections.ensures.value) c.note.ensures.undo c.note.ensures.room)
    (trails-one output_back (Line c.replace-line.result c.replace-number.result) 1 _ _ _ _ (omega arith) (ap (λ ms. page_of ms none c.replace-number.result) c.replace-line.ensures.value ∙ ap (page_of s.line none) c.replace-number.ensures.value) c.note-2.ensures.undo c.note-2.ensures.room))
