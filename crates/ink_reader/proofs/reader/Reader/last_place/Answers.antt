use Rattle.std.proofs.Common.{◌∙◌, [], ◌∷◌, ◌++◌, ap, inl, inr, refl, sym}
use Rattle.std.proofs.lemmas.Result.{MatchResult-weaker}
use Rattle.ink_reader.specs.Notices.{FirstPlace}
use Rattle.ink_reader.proofs.reader.Reader.last_place.Goals as goal

pub returns-in_default : goal.returns-in_default
returns-in_default g c = (FirstPlace, inl (c.in_default.ensures, refl), refl)

pub returns : goal.returns
returns g c =
    let from = c.in-Some.ensures in
    let text = c.as_str.result.now in
    let last = from.1 ∙ ap (λ t. from.0 ++ t ∷ []) (sym c.as_str.ensures) in
    MatchResult-weaker c.read_save.result c.read_save.ensures (λ json is. (from.0, text, last, is)) (λ words why. (why.0, inr (from.0, text, last, why.1), why.2))
