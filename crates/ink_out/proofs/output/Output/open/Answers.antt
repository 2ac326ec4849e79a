use Rattle.ink_out.specs.Opened.{section_kind}
use Rattle.ink_out.proofs.Closing.{opens_one}
use Rattle.std.proofs.Common.{◌≡◌, ◌∙◌, ◌≤◌, [], ◌∷◌, ◌++◌, ap, arith, vec_capacity, length, refl, sym}
use Rattle.ink_out.proofs.Common.{length-reverse, output_back, output_spare, output_stood, page_of}
use Rattle.ink_out.specs.declared.undo.OutputPair.TheVariants.{Began}
use Rattle.ink_out.proofs.Undoing.{began_back, goes-as, goes-with}
use Rattle.ink_out.proofs.output.Output.open.Goals as goal
use Rattle.ink_trail.proofs.Undoing.{spare-kept, spare-trails, stood-kept, stood-trails, trails-one}

pub invariant_of-self-in_err-note_began : goal.invariant_of-self-in_err-note_began
invariant_of-self-in_err-note_began c =
    let s = c.self.inside in (
      c.self.invariant.0,
      goes-as (vec_capacity s.sections) (vec_capacity c.reserve.new.self) s.trail.undo _ _ _ c.in_err-note_began.ensures.err.0 (ap (λ xs. page_of s.line xs s.next_enter) c.reserve.ensures.items) c.reserve.ensures.capacity c.self.invariant.1,
    )

pub returns-in_err-note_began-clause-stood : goal.returns-in_err-note_began-clause-stood
unfolding output_stood
returns-in_err-note_began-clause-stood c =
    let s = c.self.inside in
    rw (← c.self.view_is) (stood-kept output_back _ _ _ _ (ap (λ xs. page_of s.line xs s.next_enter) c.reserve.ensures.items) c.in_err-note_began.ensures.err)

pub returns-in_err-note_began-clause-spare : goal.returns-in_err-note_began-clause-spare
unfolding output_spare
returns-in_err-note_began-clause-spare c =
    let more = spare-kept c.self.inside.trail c.note_began.new.trail c.in_err-note_began.ensures.err in
    rw (← c.self.view_is) (omega (arith, more))

pub invariant_of-self-2 : goal.invariant_of-self-2
invariant_of-self-2 c =
    let s = c.self.inside in
    let new = c.push_reserved.new.self in
    let opened = c.in_ok-opened.opened in
    let is : new.items ≡ s.sections.items ++ opened ∷ [] = c.push_reserved.ensures.items ∙ ap (λ xs. xs ++ opened ∷ []) c.reserve.ensures.items in
    let more : vec_capacity s.sections ≤ vec_capacity new = omega (arith, c.reserve.ensures.capacity, c.push_reserved.ensures.capacity) in
    let turned = length-reverse new.items in
    let len = new.ok.0 in
    let cap = new.ok.1 in
    rw c.in_ok-note_began.ensures.ok (
      c.self.invariant.0,
      goes-with Began 1 _ _ s.trail.undo (vec_capacity s.sections) (vec_capacity new) (began_back s.line s.sections.items new.items s.next_enter opened is) (c.self.invariant.0, omega (arith, turned, len, cap)) tt more c.self.invariant.1,
    )

pub returns-clause-trail : goal.returns-clause-trail
returns-clause-trail c =
    let s = c.self.inside in
    let new = c.push_reserved.new.self in
    let opened = c.in_ok-opened.opened in
    let is : new.items ≡ s.sections.items ++ opened ∷ [] = c.push_reserved.ensures.items ∙ ap (λ xs. xs ++ opened ∷ []) c.reserve.ensures.items in
    rw (← c.self.view_is) (trails-one output_back Began 1 _ _ _ _ (omega arith) (began_back s.line s.sections.items new.items s.next_enter opened is) c.in_ok-note_began.ensures.ok c.note_began.ensures.room)

pub returns-clause-stood : goal.returns-clause-stood
unfolding output_stood
returns-clause-stood c = stood-trails output_back (returns-clause-trail c)

pub returns-clause-spare : goal.returns-clause-spare
unfolding output_spare
returns-clause-spare c = spare-trails output_back (returns-clause-trail c)

pub returns-clause-page : goal.returns-clause-page
returns-clause-page c =
    let s = c.self.inside in
    let new = c.push_reserved.new.self in
    let opened = c.in_ok-opened.opened in
    let is : new.items ≡ s.sections.items ++ opened ∷ [] = c.push_reserved.ensures.items ∙ ap (λ xs. xs ++ opened ∷ []) c.reserve.ensures.items in
    let depth = c.depth.ensures ∙ ap (λ w. length w.page.sections) (sym c.self.view_is) in
    rw (← c.self.view_is, opens_one (section_kind c.args.kind) s.line s.sections.items new.items s.next_enter c.depth.result opened depth c.if-depth-ge-MAX_SECTIONS.false is c.in_ok-opened.ensures) (refl, tt)

pub returns-clause-limit : goal.returns-clause-limit
returns-clause-limit c =
    let s = c.self.inside in
    let new = c.push_reserved.new.self in
    let opened = c.in_ok-opened.opened in
    let is : new.items ≡ s.sections.items ++ opened ∷ [] = c.push_reserved.ensures.items ∙ ap (λ xs. xs ++ opened ∷ []) c.reserve.ensures.items in
    let depth = c.depth.ensures ∙ ap (λ w. length w.page.sections) (sym c.self.view_is) in
    rw (← c.self.view_is, opens_one (section_kind c.args.kind) s.line s.sections.items new.items s.next_enter c.depth.result opened depth c.if-depth-ge-MAX_SECTIONS.false is c.in_ok-opened.ensures) tt
