use Rattle.std.proofs.Common.{rules, ◌≡◌, ◌∙◌, ◌++◌, ap, sym, codes, ℤ, w32}
use Rattle.std.proofs.lemmas.Int.{to_z-of_z}
use Rattle.std.specs.Prelude.{FitsSigned}
use Rattle.std.specs.Fmt.{signed_decimal}
use Rattle.ink_model.specs.Protocol.Answer.{answer, Counts}
use Rattle.ink_protocol.specs.Replies.{reply_by}
use Rattle.ink_protocol.proofs.Answering.{made_as, visits_answer}
use Rattle.ink_protocol.proofs.answer.put_replied.Goals as goal

pub returns-in-Visits-Ok : goal.returns-in-Visits-Ok
returns-in-Visits-Ok c saved has =
    let n = c.in-Visits-Ok.visits in
    let range : FitsSigned w32 n = search rules in
    let reply : reply_by saved c.args.outcome.now ≡ Counts n = search rules in
    made_as c.put_number.result _ _ _ c.put_number.ensures
    (ap answer reply ∙ visits_answer n ∙ ap (λ (z : ℤ). codes "{\"visits\":" ++ (signed_decimal z ++ codes "}\n")) (sym (to_z-of_z w32 n range)))
