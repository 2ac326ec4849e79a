use Rattle.std.proofs.Common.{◌≡◌, ◌∙◌, ap, sym, subst, Some, None, IfOk, option_map}
use Rattle.serde_json.specs.View.{view}
use Rattle.ink_protocol.proofs.Commands.{given_by_json}
use Rattle.ink_protocol.proofs.given.parsed_given.Goals as goal

pub returns-in-Some : goal.returns-in-Some
returns-in-Some c =
    subst (λ g. IfOk c.given_by.result (λ given. given ≡ g)) (sym (given_by_json _ (Some (view c.in-Some.value)) (ap (option_map view) (sym c.in-Some.is) ∙ c.in_ok-value.ensures)))
    c.given_by.ensures

pub returns-in-None : goal.returns-in-None
returns-in-None c = sym (given_by_json _ None (ap (option_map view) (sym c.in-None.is) ∙ c.in_ok-value.ensures))
