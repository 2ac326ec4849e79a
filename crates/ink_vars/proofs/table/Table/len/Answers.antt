use Rattle.std.proofs.Common.{◌∙◌, ap, length, subst}
use Rattle.ink_vars.specs.Globals.{DifferInName}
use Rattle.ink_vars.proofs.Rows.{as_many, differ_in_name}
use Rattle.ink_vars.proofs.table.Table.len.Goals as goal

pub returns-clause-len : goal.returns-clause-len
returns-clause-len c = c.len.ensures.len ∙ as_many c.self.inside.names c.self.inside.values.items c.self.invariant ∙ ap length c.self.view_is

pub returns-clause-names : goal.returns-clause-names
returns-clause-names c = subst DifferInName c.self.view_is (differ_in_name c.self.inside.names c.self.inside.values.items c.len.ensures.differ)
