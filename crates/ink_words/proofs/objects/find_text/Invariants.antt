use Rattle.std.proofs.Common.{◌≡◌, drop}
use Rattle.ink_words.specs.Tables.{answer_in}
use Rattle.ink_words.proofs.objects.find_text.Given as goal

abbrev pub invariant-loop-row : goal.invariant-loop-row
invariant-loop-row l = answer_in l.text (drop l.row-index l.rows) ≡ answer_in l.text l.rows
