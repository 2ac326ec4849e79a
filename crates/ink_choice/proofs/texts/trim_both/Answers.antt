use Rattle.std.proofs.Common.{◌≡◌, ◌∙◌, ◌++◌, ap, sym}
use Rattle.ink_model.specs.Text.Bytes.{is_blank, trimmed, without}
use Rattle.ink_choice.proofs.Ends.{end_first, end_second, start_first, start_second}
use Rattle.ink_choice.proofs.texts.trim_both.Goals.{then-is_empty, else-is_empty, then-is_empty-2, else-is_empty-2}
use Rattle.ink_choice.proofs.texts.trim_both.Goals as goal

pub returns : goal.returns
returns c =
    let s = c.args.start.now in
    let o = c.args.choice_only.now in
    let a = c.trim_start-start.result.now in
    let b = c.if-is_empty.choice_only.now in
    let p = c.trim_end-choice_only.result.now in
    let starts : a ++ b ≡ without is_blank (s ++ o) = elim c.if-is_empty.branch [
      | then-is_empty w ↦
          start_first is_blank s o a b c.trim_start-start.ensures (sym c.is_empty.ensures ∙ w.if-is_empty.true)
          (ap (λ t. t.now) w.choice_only-is ∙ w.trim_start-choice_only.ensures)
      | else-is_empty w ↦
          ap (λ t. a ++ t.now) w.choice_only-is ∙ start_second is_blank s o a c.trim_start-start.ensures (sym c.is_empty.ensures ∙ w.if-is_empty.false)
    ] in
    let ends : c.if-is_empty-2.start.now ++ p ≡ trimmed is_blank (a ++ b) = elim c.if-is_empty-2.branch [
      | then-is_empty-2 w ↦
          end_first is_blank a b p c.if-is_empty-2.start.now c.trim_end-choice_only.ensures (sym c.is_empty-2.ensures ∙ w.if-is_empty-2.true)
          (ap (λ t. t.now) w.start-is ∙ w.trim_end-start.ensures)
      | else-is_empty-2 w ↦
          ap (λ t. t.now ++ p) w.start-is ∙ end_second is_blank a b p c.trim_end-choice_only.ensures (sym c.is_empty-2.ensures ∙ w.if-is_empty-2.false)
    ] in
    ends ∙ ap (trimmed is_blank) starts
