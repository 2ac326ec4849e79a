use Rattle.ink_out.proofs.Closing.{nothing_open, on_top}
use Rattle.ink_model.specs.Run.Step.Text.{in_tag}
use Rattle.ink_out.proofs.Common.{is_string, list_any}
use Rattle.std.proofs.Common.{◌∙◌, ap, not, refl, reverse, sym}
use Rattle.ink_out.proofs.output.Output.is_tag_in_string.Goals as goal

pub returns-then-not-is_string : goal.returns-then-not-is_string
returns-then-not-is_string c =
    let s = c.self.inside in
    let turned = ap (λ w. w.page.sections) c.self.view_is in
    let top = on_top s.sections.items c.deref.result.now c.args.self.now.page.sections c.in-Some.opened.now turned c.deref.ensures.value (sym c.in-Some.ensures.value) in
    rw (ap in_tag top ∙ ap not (sym c.if-not-is_string.ensures))
    (c.has_string.ensures ∙ ap (λ xs. list_any is_string (reverse xs)) c.deref-then-not-is_string.ensures.value ∙ ap (list_any is_string) turned)

pub returns-else-not-is_string : goal.returns-else-not-is_string
returns-else-not-is_string c =
    let s = c.self.inside in
    let top = on_top s.sections.items c.deref.result.now c.args.self.now.page.sections c.in-Some.opened.now (ap (λ w. w.page.sections) c.self.view_is) c.deref.ensures.value (sym c.in-Some.ensures.value) in
    rw (ap in_tag top ∙ ap not (sym c.if-not-is_string.ensures)) (ap not (c.is_string.ensures ∙ sym c.if-not-is_string.ensures))

pub returns-in-None : goal.returns-in-None
returns-in-None c =
    let none = nothing_open c.self.inside.sections.items c.deref.result.now c.args.self.now.page.sections (ap (λ w. w.page.sections) c.self.view_is) c.deref.ensures.value (sym c.in-None.ensures.value) in
    rw none refl
