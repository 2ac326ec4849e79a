use Rattle.std.proofs.Common.{sym, subst, refl}
use Rattle.std.specs.Result.{IsOk}
use Rattle.std.proofs.lemmas.Str.Parse.{parse_gives}
use Rattle.ink_protocol.proofs.Numbers.{few_digits, numerals}
use Rattle.ink_protocol.proofs.word.number_of.Goals as goal

pub unwrap-requires : goal.unwrap-requires
unwrap-requires c =
    let fits = few_digits c.args.digits.now c.requires.digits c.requires.few in
    let is = parse_gives numerals 32 c.args.digits.now c.parse.result c.parse.ensures.value.0 c.requires.digits c.requires.filled fits in
    subst IsOk (sym is) refl

pub returns : goal.returns
returns c =
    let fits = few_digits c.args.digits.now c.requires.digits c.requires.few in
    let is = parse_gives numerals 32 c.args.digits.now c.parse.result c.parse.ensures.value.0 c.requires.digits c.requires.filled fits in
    let told = c.unwrap.ensures in
    cc
