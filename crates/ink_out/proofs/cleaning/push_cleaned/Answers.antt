use Rattle.ink_out.specs.Cleaning.{cleaned_on}
use Rattle.std.proofs.Common.{◌≡◌, ◌<◌, length, ◌∙◌, string_bytes, arith, ◌++◌, ap, drop}
use Rattle.std.proofs.lemmas.Str.{IsUtf8-drop}
use Rattle.ink_out.proofs.Lines.{words_step, words_boundary, word_of, white_first, white_boundary, first_on}
use Rattle.ink_out.proofs.cleaning.push_cleaned.Goals as goal

pub split_at-requires : goal.split_at-requires
split_at-requires c = words_boundary c.loop-rest.rest.now c.words_len-len.result (rw c.as_bytes.ensures.value at c.words_len-len.ensures.words)

pub loop-rest-preserved-then-len-gt0 : goal.loop-rest-preserved-then-len-gt0
loop-rest-preserved-then-len-gt0 c =
    let rest = c.loop-rest.rest.now in
    let len = c.words_len-len.result in
    let words = rw c.as_bytes.ensures.value at c.words_len-len.ensures.words in (
      rw c.split_at.ensures.back (IsUtf8-drop rest len c.loop-rest.invariant.0 (words_boundary rest len words)),
      λ more.
          rw (c.in_ok-push_words.ensures, c.split_at.ensures.front, c.split_at.ensures.back)
          (words_step (string_bytes c.loop-rest.text) rest more c.loop-rest.before len c.if-len-gt0.true words
          ∙ c.loop-rest.invariant.1 more),
    )

pub range_from-rest-requires : goal.range_from-rest-requires
range_from-rest-requires c = λ _.
    let rest = c.loop-rest.rest.now in
    let some : 0 < length rest = grind arith in
    let none : word_of rest ≡ 0 = (rw c.as_bytes.ensures.value at c.words_len-len.ensures.none) (omega (arith, c.if-len-gt0.false)) in
    white_boundary rest c.loop-rest.invariant.0 some (white_first rest some none)

pub loop-rest-preserved : goal.loop-rest-preserved
loop-rest-preserved c =
    let rest = c.loop-rest.rest.now in
    let text = string_bytes c.loop-rest.text in
    let some : 0 < length rest = grind arith in (
      c.range_from-rest.utf8,
      λ more.
          rw c.range_from-rest.ensures.value
          ((rw c.as_bytes-else-len-gt0.ensures.value at (c.in_ok-before.ensures (drop 1 rest ++ more)))
          ∙ ap (λ bs. text ++ cleaned_on c.loop-rest.before bs) (first_on rest more some)
          ∙ c.loop-rest.invariant.1 more),
    )
