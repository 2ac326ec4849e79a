use Rattle.std.proofs.Common.{◌≡◌, ◌∙◌, ◌<◌, ap, arith, inl, inr, length, refl, reverse, subst, sym}
use Rattle.ink_out.proofs.Common.{Page, OutOfMemory, closed, page_of}
use Rattle.ink_model.specs.Memory.Refusals.{Hands}
use Rattle.ink_model.specs.Text.Output.{closes_tag, tagged}
use Rattle.ink_out.proofs.Closing.{hands_nothing, no_tag, none_closed, nothing_open, on_top, tag_asks, tag_closed, tag_refused}
use Rattle.ink_out.proofs.Marks.{spare_after, stood_after}
use Rattle.ink_out.proofs.output.Output.close_tag.Goals as goal

pub returns-in_default-clause-page : goal.returns-in_default-clause-page
returns-in_default-clause-page c =
    (inr (none_closed c.args.self.now.page (nothing_open c.self.inside.sections.items c.deref.result.now c.args.self.now.page.sections (ap (λ w. w.page.sections) c.self.view_is) c.deref.ensures.value (sym c.in_default.ensures.value))).1, refl)

pub returns-then-is_string-clause-page : goal.returns-then-is_string-clause-page
returns-then-is_string-clause-page c =
    let top = on_top c.self.inside.sections.items c.deref.result.now c.args.self.now.page.sections c.in-Some.opened.now (ap (λ w. w.page.sections) c.self.view_is) c.deref.ensures.value (sym c.in-Some.ensures.value) in
    (inr (no_tag c.args.self.now.page c.in-Some.opened.now top c.if-is_string.ensures), refl)

pub returns-in_err-text-clause-page : goal.returns-in_err-text-clause-page
returns-in_err-text-clause-page c =
    let top = on_top c.self.inside.sections.items c.deref.result.now c.args.self.now.page.sections c.in-Some.opened.now (ap (λ w. w.page.sections) c.self.view_is) c.deref.ensures.value (sym c.in-Some.ensures.value) in
    hands_nothing (closes_tag c.args.self.now.page) c.args.self.now.page _ OutOfMemory c.from_residual.result (ap (λ w. w.page) c.self.view_is) c.from_residual.ensures.1 (inl (refl, tag_asks c.args.self.now.page c.in-Some.opened.now top c.if-is_string.ensures))

pub returns-in_err-text-2-clause-page : goal.returns-in_err-text-2-clause-page
returns-in_err-text-2-clause-page c =
    let top = on_top c.self.inside.sections.items c.deref.result.now c.args.self.now.page.sections c.in-Some.opened.now (ap (λ w. w.page.sections) c.self.view_is) c.deref.ensures.value (sym c.in-Some.ensures.value) in
    hands_nothing (closes_tag c.args.self.now.page) c.args.self.now.page _ c.in_err-text-2.field-0.0 c.from_residual-in_err-text-2.result (ap (λ w. w.page) c.self.view_is) c.from_residual-in_err-text-2.ensures.1 (tag_refused c.args.self.now.page c.in-Some.opened.now c.in_ok-text.text c.in_err-text-2.field-0.0 top c.if-is_string.ensures c.in_ok-text.ensures (inr (sym c.in_err-text-2.ensures)))

pub end_tag-requires : goal.end_tag-requires
end_tag-requires c =
    let s = c.self.inside in
    let top = on_top s.sections.items c.deref.result.now (reverse s.sections.items) c.in-Some.opened.now refl c.deref.ensures.value (sym c.in-Some.ensures.value) in
    subst (λ xs. 0 < length xs) (sym top) (omega arith)

pub returns-clause-page : goal.returns-clause-page
returns-clause-page c =
    let s = c.self.inside in
    let page = page_of s.line s.sections.items s.next_enter in
    let same : c.args.self.now.page ≡ page = ap (λ w. w.page) (sym c.self.view_is) in
    let top = on_top s.sections.items c.deref.result.now page.sections c.in-Some.opened.now refl c.deref.ensures.value (sym c.in-Some.ensures.value) in
    rw (ap closes_tag same ∙ tag_closed page c.in-Some.opened.now c.in_ok-text.text c.in_ok-text-2.text top c.if-is_string.ensures c.in_ok-text.ensures (sym c.in_ok-text-2.ensures))
    (subst (λ (p : Page). Hands (tagged c.in_ok-text-2.text (closed page)) p c.end_tag.new.self.page c.end_tag.result) (sym same) c.end_tag.ensures.page)

pub returns-clause-stood : goal.returns-clause-stood
returns-clause-stood c = rw (← c.self.view_is) (stood_after c.end_tag.result 2 _ _ c.end_tag.ensures.trail)

pub returns-clause-spare : goal.returns-clause-spare
returns-clause-spare c = rw (← c.self.view_is) (spare_after c.end_tag.result 2 _ _ c.end_tag.ensures.trail)

pub returns-clause-trail : goal.returns-clause-trail
returns-clause-trail c = rw (← c.self.view_is) c.end_tag.ensures.trail
