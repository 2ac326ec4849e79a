use Rattle.std.proofs.Common.{◌≡◌, ◌++◌, drop}
use Rattle.ink_model.specs.Text.Mark.{tags}
use Rattle.ink_out.proofs.tags.tag_texts.Given as goal

abbrev pub invariant-loop-mark : goal.invariant-loop-mark
invariant-loop-mark l = l.texts.items ++ tags (drop l.mark-index l.marks) ≡ tags l.marks
