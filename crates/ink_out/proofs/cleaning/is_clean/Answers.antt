use Rattle.std.proofs.Common.{◌≡◌, arith, length, subst}
use Rattle.std.proofs.lemmas.Bool.Decides.{nat_tests}
use Rattle.ink_out.specs.Cleaning.{AreWords}
use Rattle.ink_out.proofs.Lines.{words_clean}
use Rattle.ink_out.proofs.cleaning.is_clean.Goals as goal

pub returns : goal.returns
returns c = λ same.
    let cs = c.args.text.now in
    let n = c.words_len.result in
    let whole : n ≡ length cs = grind (arith, nat_tests) in
    words_clean cs n (subst (λ bs. AreWords bs n) c.as_bytes.ensures.value c.words_len.ensures.words) whole
