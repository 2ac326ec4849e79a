use Rattle.std.proofs.Common.{◌≡◌, ◌∙◌, ◌-◌, [], ◌∷◌, ap, arith, length, length-append, take, vec_len}
use Rattle.std.proofs.lemmas.List.{take_at}
use Rattle.ink_reader.proofs.past.Past.take_back.Goals as goal

pub returns-clause-takes : goal.returns-clause-takes
returns-clause-takes c earlier last is =
    let before = c.args.self.now.before in
    let size : length earlier ≡ vec_len before - 1 = omega (arith, before.ok.0, ap length is, length-append earlier (last ∷ [])) in
    c.pop-last.ensures.rest ∙ ap (take (vec_len before - 1)) is ∙ take_at earlier (last ∷ []) (vec_len before - 1) size
