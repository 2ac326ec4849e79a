use Rattle.std.proofs.Common.{◌≡◌, drop}
use Rattle.std.specs.List.{list_all}
use Rattle.ink_model.specs.Text.Output.{is_text}
use Rattle.ink_out.proofs.joining.texts_len.Given as goal

abbrev pub invariant-loop-mark : goal.invariant-loop-mark
invariant-loop-mark l = list_all is_text (drop l.mark-index l.marks) ≡ list_all is_text l.marks
