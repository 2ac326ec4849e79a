use Rattle.std.proofs.Common.{◌<◌, refl, inl, arith}
use Rattle.ink_out.proofs.Lines.{first_word}
use Rattle.ink_out.proofs.cleaning.words_len.Goals as goal

pub words-init : goal.words-init
words-init c =
    let some : 0 < c.word_len-len.result = omega (arith, c.if-len-eq0.false) in
    let first = first_word c.args.text.now c.word_len-len.result c.word_len-len.ensures in
    (some, first.within, first.cleaned some, inl refl)
