use Rattle.std.proofs.Common.{◌≡◌, ◌∙◌, ap, inl, inr, refl, sym, ◌<◌, arith, length, reverse, subst}
use Rattle.ink_model.specs.Text.Output.{closes_string}
use Rattle.ink_out.proofs.Common.{OutOfMemory, page_of}
use Rattle.ink_out.proofs.Closing.{hands_nothing, no_string, none_closed, nothing_open, on_top, string_asks, string_closed, string_refused, close_asks}
use Rattle.ink_out.proofs.Marks.{spare_after, stood_after}
use Rattle.ink_out.proofs.output.Output.close_string.Goals as goal

pub returns-in_default-clause-page : goal.returns-in_default-clause-page
returns-in_default-clause-page c =
    (inr (none_closed c.args.self.now.page (nothing_open c.self.inside.sections.items c.deref.result.now c.args.self.now.page.sections (ap (λ w. w.page.sections) c.self.view_is) c.deref.ensures.value (sym c.in_default.ensures.value))).0, refl)

pub returns-then-not-is_string-clause-page : goal.returns-then-not-is_string-clause-page
returns-then-not-is_string-clause-page c =
    let top = on_top c.self.inside.sections.items c.deref.result.now c.args.self.now.page.sections c.in-Some.opened.now (ap (λ w. w.page.sections) c.self.view_is) c.deref.ensures.value (sym c.in-Some.ensures.value) in
    (inr (no_string c.args.self.now.page c.in-Some.opened.now top c.if-not-is_string.ensures), refl)

pub returns-in_err-raw_text-clause-page : goal.returns-in_err-raw_text-clause-page
returns-in_err-raw_text-clause-page c =
    let top = on_top c.self.inside.sections.items c.deref.result.now c.args.self.now.page.sections c.in-Some.opened.now (ap (λ w. w.page.sections) c.self.view_is) c.deref.ensures.value (sym c.in-Some.ensures.value) in
    hands_nothing (closes_string c.args.self.now.page) c.args.self.now.page _ OutOfMemory c.from_residual.result (ap (λ w. w.page) c.self.view_is) c.from_residual.ensures.1 (inl (refl, string_asks c.args.self.now.page c.in-Some.opened.now top c.if-not-is_string.ensures))

pub returns-in_err-text-clause-page : goal.returns-in_err-text-clause-page
returns-in_err-text-clause-page c =
    let top = on_top c.self.inside.sections.items c.deref.result.now c.args.self.now.page.sections c.in-Some.opened.now (ap (λ w. w.page.sections) c.self.view_is) c.deref.ensures.value (sym c.in-Some.ensures.value) in
    hands_nothing (closes_string c.args.self.now.page) c.args.self.now.page _ c.in_err-text.field-0.0 c.from_residual-in_err-text.result (ap (λ w. w.page) c.self.view_is) c.from_residual-in_err-text.ensures.1 (string_refused c.args.self.now.page c.in-Some.opened.now c.in_ok-raw_text.raw_text c.in_err-text.field-0.0 top c.if-not-is_string.ensures c.in_ok-raw_text.ensures (inr (sym c.in_err-text.ensures)))

pub returns-clause-page : goal.returns-clause-page
returns-clause-page c =
    let s = c.self.inside in
    let page = page_of s.line s.sections.items s.next_enter in
    let same : c.args.self.now.page ≡ page = ap (λ w. w.page) (sym c.self.view_is) in
    let top = on_top s.sections.items c.deref.result.now page.sections c.in-Some.opened.now refl c.deref.ensures.value (sym c.in-Some.ensures.value) in
    (ap closes_string same ∙ string_closed page c.close.new.self.page c.in-Some.opened.now c.in_ok-raw_text.raw_text c.in_ok-text.text top c.if-not-is_string.ensures c.in_ok-raw_text.ensures (sym c.in_ok-text.ensures) c.in_ok-close.ensures.page.0, tt)

pub returns-in_err-close-clause-stood : goal.returns-in_err-close-clause-stood
returns-in_err-close-clause-stood c = rw (← c.self.view_is) (stood_after c.close.result 1 _ _ c.close.ensures.trail)

pub returns-in_err-close-clause-spare : goal.returns-in_err-close-clause-spare
returns-in_err-close-clause-spare c = rw (← c.self.view_is) (spare_after c.close.result 1 _ _ c.close.ensures.trail)

pub returns-clause-stood : goal.returns-clause-stood
returns-clause-stood c = rw (← c.self.view_is) (stood_after c.close.result 1 _ _ c.close.ensures.trail)

pub returns-clause-spare : goal.returns-clause-spare
returns-clause-spare c = rw (← c.self.view_is) (spare_after c.close.result 1 _ _ c.close.ensures.trail)

pub close-requires : goal.close-requires
close-requires c =
    let s = c.self.inside in
    let top = on_top s.sections.items c.deref.result.now (reverse s.sections.items) c.in-Some.opened.now refl c.deref.ensures.value (sym c.in-Some.ensures.value) in
    subst (λ xs. 0 < length xs) (sym top) (omega arith)

pub returns-in_err-close-clause-page : goal.returns-in_err-close-clause-page
returns-in_err-close-clause-page c =
    let s = c.self.inside in
    let page = c.args.self.now.page in
    let top = on_top c.self.inside.sections.items c.deref.result.now page.sections c.in-Some.opened.now (ap (λ w. w.page.sections) c.self.view_is) c.deref.ensures.value (sym c.in-Some.ensures.value) in
    let failed = c.in_err-close.ensures.page in
    hands_nothing (closes_string page) page _ c.in_err-close.field-0.0 c.from_residual-in_err-close.result (failed.1 ∙ ap (λ w. w.page) c.self.view_is) c.from_residual-in_err-close.ensures.1 (inl (close_asks (page_of s.line s.sections.items s.next_enter) c.in_err-close.field-0.0 failed.0, string_asks page c.in-Some.opened.now top c.if-not-is_string.ensures))

pub returns-clause-trail : goal.returns-clause-trail
returns-clause-trail c = rw (← c.self.view_is) c.in_ok-close.ensures.trail
