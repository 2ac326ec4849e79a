use Rattle.std.proofs.Common.{rules, ◌≡◌, ◌∙◌, ◌++◌, ap, sym, List, ℕ, w32}
use Rattle.std.proofs.lemmas.Int.{to_z-of_z}
use Rattle.std.specs.Fmt.{signed_decimal}
use Rattle.std.specs.Prelude.{FitsSigned}
use Rattle.serde_json.specs.Written.{compact_text}
use Rattle.ink_model.specs.Host.Bindings.{value_given}
use Rattle.ink_model.specs.Protocol.ValueJson.{value_data}
use Rattle.ink_model.specs.declared.host.Given.TheVariants as given
use Rattle.ink_protocol.proofs.Answering.{integer_text, made_as}
use Rattle.ink_protocol.proofs.events.print_given.Goals as goal

pub returns-in-Int : goal.returns-in-Int
returns-in-Int c =
    let n = c.in-Int.number in
    let line = c.args.line.now.items in
    let range : FitsSigned w32 n = search rules in
    let is : c.args.given.now ≡ given.Int n = search rules in
    made_as c.print_integer.result _ _ _ c.print_integer.ensures
    (ap (λ g. line ++ compact_text (value_data (value_given g))) is ∙ ap (λ (ds : List ℕ). line ++ ds) (integer_text n ∙ ap signed_decimal (sym (to_z-of_z w32 n range))))
