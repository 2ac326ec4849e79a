use Rattle.std.proofs.Common.{◌∙◌, ap, bytes_eq, rules, subst, sym, w32, FitsSigned}
use Rattle.std.proofs.lemmas.Int.{to_z-of_z}
use Rattle.std.specs.Fmt.{signed_decimal}
use Rattle.ink_protocol.proofs.Spelling.{Misses, none_printed}
use Rattle.ink_protocol.proofs.given.plain_integer.Goals as goal

pub returns-in_default-clause-none : goal.returns-in_default-clause-none
returns-in_default-clause-none c =
    let text = c.args.text.now in
    let fits : FitsSigned w32 c.in-Ok.number = search rules in
    let missed = ap (λ z. bytes_eq (signed_decimal z) text) (sym (to_z-of_z w32 c.in-Ok.number fits)) ∙ sym c.if-is_printed.ensures.exact in
    none_printed text c.parse.result c.parse.ensures.value.0 (subst (Misses text) (sym c.in-Ok.is) missed)

pub returns-in_default-2-clause-none : goal.returns-in_default-2-clause-none
returns-in_default-2-clause-none c = none_printed c.args.text.now c.parse.result c.parse.ensures.value.0 (subst (Misses c.args.text.now) (sym c.in_default.is) tt)
