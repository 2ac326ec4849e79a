use Rattle.std.proofs.Common.{◌∙◌, ◌++◌, ap, sym, List, ℕ, w32}
use Rattle.std.proofs.lemmas.Int.{to_z-of_z}
use Rattle.std.specs.Fmt.{signed_decimal}
use Rattle.ink_protocol.proofs.Answering.{made_as}
use Rattle.ink_protocol.proofs.answer.print_integer.Goals as goal

pub returns : goal.returns
returns c =
    let digits = c.format.ensures.text ∙ ap signed_decimal (to_z-of_z w32 c.args.number c.ranges.number) in
    made_as c.append.result _ _ _ c.append.ensures (ap (λ (ds : List ℕ). c.args.line.now.items ++ ds) (sym digits))
