use Rattle.std.proofs.Common.{◌≡◌, drop}
use Rattle.std.specs.List.{list_any}
use Rattle.ink_model.specs.Text.Shown.{is_filled_blank}
use Rattle.ink_out.proofs.section.has_filled_blank.Given as goal

abbrev pub invariant-loop-mark : goal.invariant-loop-mark
invariant-loop-mark l = list_any is_filled_blank (drop l.mark-index l.marks) ≡ list_any is_filled_blank l.marks
