use Rattle.std.proofs.Common.{rules, ◌≡◌, ◌∙◌, ◌++◌, ap, sym, codes, ℤ, w32}
use Rattle.std.proofs.lemmas.Int.{to_z-of_z}
use Rattle.std.specs.Prelude.{FitsSigned}
use Rattle.std.specs.Fmt.{signed_decimal}
use Rattle.ink_model.specs.Protocol.Answer.{answer, Shows}
use Rattle.ink_model.specs.declared.value.Value.TheVariants as value
use Rattle.ink_protocol.specs.Replies.{reply_by}
use Rattle.ink_protocol.proofs.Answering.{made_as, number_answer}
use Rattle.ink_protocol.proofs.answer.answer_text.Goals as goal

pub returns-in-Value-Ok-Int : goal.returns-in-Value-Ok-Int
returns-in-Value-Ok-Int c saved has =
    let n = c.in-Value-Ok-Int.number in
    let range : FitsSigned w32 n = search rules in
    let reply : reply_by saved c.args.outcome ≡ Shows (value.Int n) = search rules in
    made_as c.put_number.result _ _ _ c.put_number.ensures
    (ap answer reply ∙ number_answer n ∙ ap (λ (z : ℤ). codes "{\"value\":" ++ (signed_decimal z ++ codes "}\n")) (sym (to_z-of_z w32 n range)))
