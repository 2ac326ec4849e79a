use Rattle.std.proofs.Common.{◌≡◌, ◌∙◌, ◌-◌, ap, arith, drop, false, length, not, sym, take}
use Rattle.ink_out.proofs.Common.{list_any, is_blank}
use Rattle.std.proofs.lemmas.List.{length-drop, take_all}
use Rattle.ink_out.proofs.Lines.{words_stay}
use Rattle.ink_out.proofs.cleaning.clean_len.Goals as goal

pub returns-clause-clean : goal.returns-clause-clean
returns-clause-clean c =
    let cs = c.as_bytes-bytes.result.now in
    let n = c.words_len-len.result in
    let words = c.words_len-len.ensures.words in
    let whole : take (length cs - n) (drop n cs) ≡ drop n cs = take_all (length cs - n) (drop n cs) (omega (arith, length-drop n cs, words.within)) in
    let none : list_any (λ byte. not (is_blank byte)) (drop n cs) ≡ false = ap (list_any (λ byte. not (is_blank byte))) (sym whole) ∙ sym c.has_words.ensures ∙ c.if-has_words.false in
    rw c.as_bytes-bytes.ensures.value at (words_stay cs n words none)
