use Rattle.std.proofs.Common.{◌≡◌, ◌∙◌, ◌+◌, ap, drop, sym, true, [], ◌∷◌, ◌++◌}
use Rattle.std.proofs.lemmas.List.{append_assoc}
use Rattle.ink_out.proofs.Common.{clean, texts_of}
use Rattle.ink_out.specs.Kept.{mark_of, said}
use Rattle.ink_out.proofs.Joined.{all_joined, not_said, one_left}
use Rattle.ink_out.proofs.joining.cleaned_line.Goals.{in-Text+in_ok-push_str-in-Text, in-Part+in_ok-push_str-in-Part, in_default}
use Rattle.ink_out.proofs.joining.cleaned_line.Goals as goal

pub loop-mark-preserved : goal.loop-mark-preserved
loop-mark-preserved c =
    let (written, holds, rest) = c.loop-mark.invariant in
    let after = drop (c.loop-mark.mark-index + 1) c.args.texts.now in
    let all = texts_of c.args.texts.now in
    let left : written ++ texts_of (mark_of c.mark.inside.form ∷ after) ≡ all =
    rw c.mark.view_is (one_left c.args.texts.now c.loop-mark.mark-index c.mark-item.result written all c.loop-mark-test.true c.mark-item.is rest) in
    elim c.match-mark.branch [
      | in-Text+in_ok-push_str-in-Text w ↦
          let text = said w.in-Text.words in
          let joined : written ++ (text ++ texts_of after) ≡ all = rw w.in-Text.is at left in
          (written ++ text, rw (w.shown-is, ← w.as_str.ensures) (w.in_ok-push_str-in-Text.ensures true written holds), append_assoc written text (texts_of after) ∙ joined)
      | in-Part+in_ok-push_str-in-Part w ↦
          let text = w.in-Part.part in
          let joined : written ++ (text ++ texts_of after) ≡ all = rw w.in-Part.is at left in
          (written ++ text, rw (w.shown-is, ← w.as_str-in-Part.ensures) (w.in_ok-push_str-in-Part.ensures true written holds), append_assoc written text (texts_of after) ∙ joined)
      | in_default w ↦
          let same = not_said c.mark.inside.form after w.in_default.not-Text w.in_default.not-Part in
          (written, rw w.shown-is holds, ap (λ bs. written ++ bs) (sym same) ∙ left)
    ]

pub returns : goal.returns
returns c =
    let (written, holds, rest) = c.loop-mark.invariant in
    let all = all_joined c.loop-mark.mark-index c.args.texts.now written (texts_of c.args.texts.now) c.loop-mark-test.false rest in
    c.into_text.ensures true (written ++ 10 ∷ []) (c.in_ok-push_str.ensures true written holds) ∙ ap (λ cs. clean (cs ++ 10 ∷ [])) all
