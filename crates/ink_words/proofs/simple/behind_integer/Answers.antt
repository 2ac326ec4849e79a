use Rattle.std.proofs.Common.{◌∙◌, ap, refl, sym, w32}
use Rattle.std.proofs.lemmas.Int.{to_z-of_z}
use Rattle.std.specs.Fmt.{signed_decimal}
use Rattle.ink_words.proofs.Spelled.{taken_as}
use Rattle.ink_words.proofs.simple.behind_integer.Goals as goal

pub returns : goal.returns
returns c more =
    let digits = c.format.ensures.text ∙ ap signed_decimal (to_z-of_z w32 c.args.number c.ranges.number) in
    taken_as (signed_decimal c.args.number) _ more c.args.text.now c.args.text.now c.strip_prefix.result (sym (c.as_bytes.ensures.value ∙ digits)) refl c.strip_prefix.ensures.cases
