use Rattle.std.proofs.Common.{◌∙◌, ap, sym}
use Rattle.ink_model.specs.Run.Flows.{current_name}
use Rattle.ink_flows.proofs.Current.{current_default, current_named}
use Rattle.ink_flows.proofs.aside.Aside.current_name.Goals as goal

pub returns-in-Some : goal.returns-in-Some
returns-in-Some c =
    c.as_str.ensures.value
    ∙ sym (current_named c.self.inside.rows.entries c.self.inside.current (c.in-Some.name.now, c.in-Some.field-0-1.now) c.self.invariant.1 (sym c.in-Some.ensures.entry))
    ∙ ap current_name c.self.view_is

pub returns-in-None : goal.returns-in-None
returns-in-None c = sym (current_default c.self.inside.rows.entries c.self.inside.current c.self.invariant.1 (sym c.in-None.ensures.entry)) ∙ ap current_name c.self.view_is
