use Rattle.std.proofs.Common.{◌∙◌, ◌++◌, ap, codes, false, map, sym, List, ℕ}
use Rattle.serde_json.specs.Written.{items_text}
use Rattle.ink_model.specs.Protocol.Answer.{items_of, shown_data}
use Rattle.ink_protocol.proofs.Answering.{made_as}
use Rattle.ink_protocol.proofs.answer.put_choices.Goals as goal

pub returns : goal.returns
returns c =
    let front = c.in_ok-append.ensures ∙ ap (λ (xs : List ℕ). xs ++ codes "{\"choices\":[") c.requires in
    made_as c.put_shown_all.result _ _ _ c.put_shown_all.ensures (sym (ap (λ (xs : List ℕ). xs ++ items_text false (items_of (map shown_data c.args.choices.now))) front))
