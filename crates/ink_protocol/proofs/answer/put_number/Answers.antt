use Rattle.std.proofs.Common.{◌∙◌, ◌++◌, ap, codes, sym, List, ℕ, w32}
use Rattle.std.proofs.lemmas.Int.{to_z-of_z}
use Rattle.std.specs.Fmt.{signed_decimal}
use Rattle.ink_protocol.proofs.Answering.{made_as}
use Rattle.ink_protocol.proofs.answer.put_number.Goals as goal

pub returns : goal.returns
returns c =
    let front = c.args.front.now in
    let digits = c.format.ensures.text ∙ ap signed_decimal (to_z-of_z w32 c.args.number c.ranges.number) in
    made_as c.put_between.result _ _ _ c.put_between.ensures
    (sym (ap (λ (xs : List ℕ). xs ++ (front ++ (c.format.result.now ++ codes "}\n"))) c.requires ∙ ap (λ (ds : List ℕ). front ++ (ds ++ codes "}\n")) digits))
