use Rattle.std.proofs.Common.{◌≡◌, ◌++◌, drop, string_bytes}
use Rattle.ink_page.specs.Question.{listed}
use Rattle.ink_page.proofs.Questions.{listed_behind}
use Rattle.ink_page.proofs.question.put_values.Given as goal

-- what is still to come from here is what was to come at the start
abbrev pub invariant-loop-value : goal.invariant-loop-value
invariant-loop-value l = string_bytes l.text ++ listed_behind l.follows (drop l.value-index l.values) ≡ string_bytes l.fn.text ++ listed l.values
