use Rattle.std.proofs.Common.{◌∙◌, ap, sym, Some}
use Rattle.std.specs.Option.{option_map}
use Rattle.ink_host.specs.Desk.{at, kind_of}
use Rattle.ink_host.proofs.Entries.{found}
use Rattle.ink_host.proofs.desk.Desk.kind.Goals as goal

pub returns-in-None : goal.returns-in-None
returns-in-None g c =
    ap (option_map kind_of) (c.in-None.ensures.value ∙ found c.args.name.now c.self.inside.functions.entries ∙ ap (λ d. at c.args.name.now d.functions) c.self.view_is)

pub returns-in-Some-Pure : goal.returns-in-Some-Pure
returns-in-Some-Pure g c =
    ap (λ b. option_map kind_of (Some b)) (sym c.in-Some-Pure.field-0-is) ∙
    ap (option_map kind_of) (c.in-Some-Pure.ensures.value ∙ found c.args.name.now c.self.inside.functions.entries ∙ ap (λ d. at c.args.name.now d.functions) c.self.view_is)

pub returns-in-Some-Turn : goal.returns-in-Some-Turn
returns-in-Some-Turn g c =
    ap (λ b. option_map kind_of (Some b)) (sym c.in-Some-Turn.field-0-is) ∙
    ap (option_map kind_of) (c.in-Some-Turn.ensures.value ∙ found c.args.name.now c.self.inside.functions.entries ∙ ap (λ d. at c.args.name.now d.functions) c.self.view_is)
