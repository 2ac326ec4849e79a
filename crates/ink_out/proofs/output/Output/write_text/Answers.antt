use Rattle.std.proofs.Common.{◌≡◌, ◌≢◌, ℕ, true, false, not, cond, List, [], ◌∷◌, length, refl, arith, rules, vec_capacity}
use Rattle.ink_out.proofs.Common.{list_any, nil_from_length, is_blank, cut, piece, Blank, Text}
use Rattle.ink_out.proofs.Closing.{refilled}
use Rattle.ink_out.proofs.Noting.{empty_text, whole_cut, let_through-piece}
use Rattle.ink_out.proofs.Marks.{spare_after, stood_after}
use Rattle.ink_out.proofs.output.Output.write_text.Goals as goal

pub returns-then-is_empty-clause-page : goal.returns-then-is_empty-clause-page
returns-then-is_empty-clause-page c =
    let len : length c.args.text.now ≡ 0 = grind arith in
    let written = empty_text c.args.fresh c.args.text.now c.self.inside.line c.self.inside.sections.items c.self.inside.next_enter (nil_from_length c.args.text.now len) c.self.invariant.0 in
    rw (← c.self.view_is, written) (refl, tt)

pub returns-then-is_empty-clause-text : goal.returns-then-is_empty-clause-text
unfolding cut
returns-then-is_empty-clause-text c =
    let len : length c.args.text.now ≡ 0 = grind arith in
    rw (nil_from_length c.args.text.now len) refl

pub returns-else-is_cut-clause-page : goal.returns-else-is_cut-clause-page
returns-else-is_cut-clause-page c =
    let s = c.self.inside in
    let kept = refilled s.sections.items c.deref_mut-else-is_cut.result.now c.note_piece.new.sections s.sections.len s.sections.ok.0 c.deref_mut-else-is_cut.ensures.value c.note_piece.auto.sections in
    let page = rw c.deref_mut-else-is_cut.ensures.value at (c.note_piece.ensures.page s.next_enter) in
    rw (← c.self.view_is, whole_cut c.args.text.now (search rules), let_through-piece c.args.fresh c.args.text.now, kept) page

pub returns-else-is_cut-clause-text : goal.returns-else-is_cut-clause-text
returns-else-is_cut-clause-text c = rw (whole_cut c.args.text.now (search rules)) c.note_piece.ensures.text

pub returns-then-is_cut-clause-trail : goal.returns-then-is_cut-clause-trail
returns-then-is_cut-clause-trail c =
    let s = c.self.inside in
    let kept = refilled s.sections.items c.deref_mut.result.now c.note_cut.new.sections s.sections.len s.sections.ok.0 c.deref_mut.ensures.value c.note_cut.auto.sections in
    rw (← c.self.view_is, kept) (rw c.deref_mut.ensures.value at (c.note_cut.ensures.trail s.next_enter))

pub returns-then-is_cut-clause-stood : goal.returns-then-is_cut-clause-stood
returns-then-is_cut-clause-stood c = stood_after c.note_cut.result _ _ _ (returns-then-is_cut-clause-trail c)

pub returns-then-is_cut-clause-spare : goal.returns-then-is_cut-clause-spare
returns-then-is_cut-clause-spare c = spare_after c.note_cut.result _ _ _ (returns-then-is_cut-clause-trail c)

one_piece : (cs : List ℕ) → cs ≢ [] → 1 ≡ length (piece cs)
one_piece [] some = absurd (some refl)
one_piece (c ∷ cs) some =
    elim (list_any (λ x. not (is_blank x)) (c ∷ cs)) as (λ b. 1 ≡ length (cond b (Text (c ∷ cs) ∷ []) (Blank (c ∷ cs) ∷ []))) [ true ↦ refl | false ↦ refl ]

pub returns-else-is_cut-clause-trail : goal.returns-else-is_cut-clause-trail
returns-else-is_cut-clause-trail c =
    let s = c.self.inside in
    let kept = refilled s.sections.items c.deref_mut-else-is_cut.result.now c.note_piece.new.sections s.sections.len s.sections.ok.0 c.deref_mut-else-is_cut.ensures.value c.note_piece.auto.sections in
    let trail = rw c.deref_mut-else-is_cut.ensures.value at (c.note_piece.ensures.trail s.next_enter) in
    rw (← c.self.view_is, whole_cut c.args.text.now (search rules), let_through-piece c.args.fresh c.args.text.now, ← one_piece c.args.text.now (search rules), kept) trail

pub returns-else-is_cut-clause-stood : goal.returns-else-is_cut-clause-stood
returns-else-is_cut-clause-stood c = stood_after c.note_piece.result _ _ _ (returns-else-is_cut-clause-trail c)

pub returns-else-is_cut-clause-spare : goal.returns-else-is_cut-clause-spare
returns-else-is_cut-clause-spare c = spare_after c.note_piece.result _ _ _ (returns-else-is_cut-clause-trail c)

pub invariant_of-self-then-is_cut : goal.invariant_of-self-then-is_cut
invariant_of-self-then-is_cut c =
    let s = c.self.inside in
    let kept = refilled s.sections.items c.deref_mut.result.now c.note_cut.new.sections s.sections.len s.sections.ok.0 c.deref_mut.ensures.value c.note_cut.auto.sections in
    rw kept (c.note_cut.ensures.within c.self.invariant.0, (rw c.deref_mut.ensures.value at (c.note_cut.ensures.back s.next_enter (vec_capacity s.sections))) c.self.invariant.1)

pub invariant_of-self-else-is_cut : goal.invariant_of-self-else-is_cut
invariant_of-self-else-is_cut c =
    let s = c.self.inside in
    let kept = refilled s.sections.items c.deref_mut-else-is_cut.result.now c.note_piece.new.sections s.sections.len s.sections.ok.0 c.deref_mut-else-is_cut.ensures.value c.note_piece.auto.sections in
    rw kept (c.note_piece.ensures.within c.self.invariant.0, (rw c.deref_mut-else-is_cut.ensures.value at (c.note_piece.ensures.back s.next_enter (vec_capacity s.sections))) c.self.invariant.1)

pub returns-then-is_cut-clause-page : goal.returns-then-is_cut-clause-page
returns-then-is_cut-clause-page c =
    let s = c.self.inside in
    let kept = refilled s.sections.items c.deref_mut.result.now c.note_cut.new.sections s.sections.len s.sections.ok.0 c.deref_mut.ensures.value c.note_cut.auto.sections in
    let page = rw c.deref_mut.ensures.value at (c.note_cut.ensures.page s.next_enter) in
    rw (← c.self.view_is, kept) page
