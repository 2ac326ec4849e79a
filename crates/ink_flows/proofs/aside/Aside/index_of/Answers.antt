use Rattle.std.proofs.Common.{◌∙◌, ap, is_some, IfSome, sym, subst}
use Rattle.ink_host.proofs.Entries.{found}
use Rattle.ink_model.specs.Variables.Named.{at}
use Rattle.ink_flows.specs.Standing.{NamedAt}
use Rattle.ink_flows.proofs.Current.{found_some}
use Rattle.ink_flows.proofs.Listed.{listed_more}
use Rattle.ink_flows.proofs.aside.Aside.index_of.Goals as goal

pub returns-clause-found : goal.returns-clause-found
returns-clause-found c =
    let name = c.args.name.now in
    let entries = c.self.inside.rows.entries in
    c.get_index_of.ensures.found ∙ ap is_some (found name entries)
    ∙ ap (λ rows. is_some (at name rows)) (sym (listed_more entries c.is_empty.result c.if-is_empty.false c.is_empty.ensures.1) ∙ c.self.view_is)

pub returns-clause-index : goal.returns-clause-index
returns-clause-index c =
    let name = c.args.name.now in
    subst (λ rows. IfSome c.get_index_of.result (λ i. NamedAt name i rows)) c.self.view_is (found_some name c.self.inside.rows.entries c.get_index_of.result c.get_index_of.ensures.index)
