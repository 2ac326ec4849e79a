use Rattle.std.proofs.Common.{◌∙◌, ◌∷◌, ◌++◌, [], ap, false, map, List, ℕ}
use Rattle.serde_json.specs.Written.{items_text}
use Rattle.ink_model.specs.Protocol.Answer.{items_of}
use Rattle.ink_model.specs.Protocol.ValueJson.{value_data}
use Rattle.ink_protocol.proofs.answer.print_values.Goals as goal

pub returns : goal.returns
returns c =
    c.in_ok-print_all.ensures
    ∙ ap (λ (xs : List ℕ). xs ++ items_text false (items_of (map value_data c.args.values.now))) (c.in_ok-push.ensures.items ∙ ap (λ (xs : List ℕ). xs ++ 91 ∷ []) c.in_ok-text.ensures.items)
