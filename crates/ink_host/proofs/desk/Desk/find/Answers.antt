use Rattle.std.proofs.Common.{◌∙◌, ap, subst, sym, Some}
use Rattle.std.specs.Option.{option_map}
use Rattle.ink_host.specs.Desk.{StandsAt, at, kind_of}
use Rattle.ink_host.proofs.Entries.{found, found-place}
use Rattle.ink_host.proofs.desk.Desk.find.Goals as goal

pub returns-in_default-clause-kind : goal.returns-in_default-clause-kind
returns-in_default-clause-kind g c =
    ap (option_map kind_of) (c.in_default.ensures.value ∙ found c.args.name.now c.self.inside.functions.entries ∙ ap (λ d. at c.args.name.now d.functions) c.self.view_is)

pub returns-clause-kind : goal.returns-clause-kind
returns-clause-kind g c =
    ap Some c.kind_of.ensures
    ∙ ap (option_map kind_of) (c.in-Some.ensures.value ∙ found c.args.name.now c.self.inside.functions.entries ∙ ap (λ d. at c.args.name.now d.functions) c.self.view_is)

pub returns-clause-place : goal.returns-clause-place
returns-clause-place g c =
    subst (λ d. StandsAt c.args.name.now c.in-Some.place d.functions) c.self.view_is
    (found-place c.args.name.now c.self.inside.functions.entries c.in-Some.place (sym c.in-Some.ensures.index))
