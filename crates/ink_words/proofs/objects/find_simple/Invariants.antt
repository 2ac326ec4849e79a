use Rattle.std.proofs.Common.{◌≡◌, drop}
use Rattle.ink_protocol.specs.Answers.{values_text}
use Rattle.ink_words.specs.Tables.{answer_in}
use Rattle.ink_words.proofs.objects.find_simple.Given as goal

abbrev pub invariant-loop-row : goal.invariant-loop-row
invariant-loop-row l = answer_in (values_text l.arguments) (drop l.row-index l.rows) ≡ answer_in (values_text l.arguments) l.rows
