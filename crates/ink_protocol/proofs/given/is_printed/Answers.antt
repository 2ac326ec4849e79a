use Rattle.std.proofs.Common.{◌<◌, ◌^◌, ◌∙◌, ap, arith, bytes_eq, w32}
use Rattle.std.proofs.lemmas.Int.{ints, to_z-of_z}
use Rattle.std.specs.Fmt.{signed_decimal}
use lib.Signed.{mag}
use Rattle.ink_protocol.proofs.Spelling.{printed}
use Rattle.ink_protocol.proofs.given.is_printed.Goals as goal

pub returns : goal.returns
returns c =
    let range = c.ranges.number in
    let small : mag c.args.number < 2 ^ 31 = omega (arith, ints) in
    let shown = c.format.ensures.text ∙ ap signed_decimal (to_z-of_z w32 c.args.number range) in
    record { value = printed c.args.number _ _ c.eq.result small shown c.eq.ensures; exact = c.eq.ensures ∙ ap (λ l. bytes_eq l c.args.text.now) shown }
