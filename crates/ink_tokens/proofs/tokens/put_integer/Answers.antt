use Rattle.std.proofs.Common.{◌≡◌, ◌∙◌, ap, subst, arith, w32, w64, to_z, of_z}
use Rattle.std.proofs.lemmas.Int.{ints, to_z-of_z}
use Rattle.std.specs.Prelude.{FitsSigned}
use Rattle.std.specs.Fmt.{signed_decimal}
use Rattle.json.specs.Token as token
use Rattle.json.specs.Written.{Writes}
use Rattle.ink_tokens.proofs.Adding.{added_integer}
use Rattle.ink_tokens.proofs.tokens.put_integer.Goals as goal

pub returns : goal.returns
returns c =
    let range = c.ranges.integer in
    let wide : FitsSigned w64 c.args.integer = omega (arith, ints) in
    let same : to_z w64 (of_z w64 (to_z w32 (of_z w32 c.args.integer))) ≡ c.args.integer =
    ap (λ z. to_z w64 (of_z w64 z)) (to_z-of_z w32 c.args.integer range) ∙ to_z-of_z w64 c.args.integer wide in
    added_integer _ _ _ c.args.integer (subst (λ z. Writes c.i64.result c.args.out.now c.i64.new.self (token.number (signed_decimal z))) same c.i64.ensures)
