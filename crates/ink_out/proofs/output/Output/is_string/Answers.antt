use Rattle.std.proofs.Common.{◌∙◌, ap, refl, sym}
use Rattle.ink_model.specs.Run.Step.Text.{in_string}
use Rattle.ink_out.proofs.Closing.{nothing_open, on_top}
use Rattle.ink_out.proofs.output.Output.is_string.Goals as goal

pub returns-in-None : goal.returns-in-None
returns-in-None c =
    let none = nothing_open c.self.inside.sections.items c.deref.result.now c.args.self.now.page.sections (ap (λ w. w.page.sections) c.self.view_is) c.deref.ensures.value (sym c.in-None.ensures.value) in
    rw none refl

pub returns-in-Some : goal.returns-in-Some
returns-in-Some c =
    let top = on_top c.self.inside.sections.items c.deref.result.now c.args.self.now.page.sections c.in-Some.opened.now (ap (λ w. w.page.sections) c.self.view_is) c.deref.ensures.value (sym c.in-Some.ensures.value) in
    c.is_string.ensures ∙ sym (ap in_string top)
