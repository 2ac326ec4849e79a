use Rattle.std.proofs.Common.{◌≡◌, drop, reverse}
use Rattle.ink_out.proofs.Common.{list_any, is_string}
use Rattle.ink_out.proofs.output.has_string.Given as goal

abbrev pub invariant-loop-section : goal.invariant-loop-section
invariant-loop-section l = list_any is_string (drop l.section-index l.sections) ≡ list_any is_string (reverse l.sections)
