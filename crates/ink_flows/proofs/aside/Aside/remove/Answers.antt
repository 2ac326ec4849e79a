use Rattle.std.proofs.Common.{◌∙◌, ap, bytes_eq, sym}
use Rattle.std.specs.Option.{option_map}
use Rattle.ink_host.proofs.Entries.{removed}
use Rattle.ink_model.specs.Run.Flows.{current_name}
use Rattle.ink_model.specs.Variables.Named.{without}
use Rattle.ink_flows.specs.Standing.{listed, rows_of, shown_rows}
use Rattle.ink_flows.proofs.Current.{found_at, one_earlier, one_later}
use Rattle.ink_flows.proofs.Going.{without_listed}
use Rattle.ink_flows.proofs.Laws.{begins_without}
use Rattle.ink_flows.proofs.aside.Aside.remove.Goals as goal

pub returns-in_default : goal.returns-in_default
returns-in_default c =
    let name = c.args.name.now in
    let es = c.self.inside.rows.entries in
    ap listed (ap rows_of c.shift_remove_full.ensures.entries ∙ removed name es) ∙ without_listed name (rows_of es) c.requires.other c.self.invariant.0 ∙ ap (without name) c.self.view_is

pub invariant_of-self-then-index-self : goal.invariant_of-self-then-index-self
invariant_of-self-then-index-self c =
    let name = c.args.name.now in
    let es = c.self.inside.rows.entries in
    let named = found_at name es c.in-Some.index (sym c.shift_remove_full.ensures.index ∙ ap (option_map (λ p. p.0)) c.in-Some.is) in
    rw (ap listed (ap rows_of c.shift_remove_full.ensures.entries ∙ removed name es) ∙ without_listed name (rows_of es) c.requires.other c.self.invariant.0) (
      begins_without name (shown_rows es) c.requires.other c.self.invariant.0,
      one_earlier c.self.inside.current c.in-Some.index (shown_rows es) name c.self.invariant.1 named c.if-index-self.true,
    )

pub invariant_of-self-else-index-self : goal.invariant_of-self-else-index-self
invariant_of-self-else-index-self c =
    let name = c.args.name.now in
    let es = c.self.inside.rows.entries in
    let named = found_at name es c.in-Some.index (sym c.shift_remove_full.ensures.index ∙ ap (option_map (λ p. p.0)) c.in-Some.is) in
    let other = ap (λ a. bytes_eq (current_name a) name) c.self.view_is ∙ c.requires.aside in
    rw (ap listed (ap rows_of c.shift_remove_full.ensures.entries ∙ removed name es) ∙ without_listed name (rows_of es) c.requires.other c.self.invariant.0) (
      begins_without name (shown_rows es) c.requires.other c.self.invariant.0,
      one_later c.self.inside.current c.in-Some.index (shown_rows es) name c.self.invariant.1 named other c.if-index-self.false,
    )

pub returns-then-index-self : goal.returns-then-index-self
returns-then-index-self c =
    let name = c.args.name.now in
    let es = c.self.inside.rows.entries in
    ap listed (ap rows_of c.shift_remove_full.ensures.entries ∙ removed name es) ∙ without_listed name (rows_of es) c.requires.other c.self.invariant.0 ∙ ap (without name) c.self.view_is

pub returns-else-index-self : goal.returns-else-index-self
returns-else-index-self c =
    let name = c.args.name.now in
    let es = c.self.inside.rows.entries in
    ap listed (ap rows_of c.shift_remove_full.ensures.entries ∙ removed name es) ∙ without_listed name (rows_of es) c.requires.other c.self.invariant.0 ∙ ap (without name) c.self.view_is
