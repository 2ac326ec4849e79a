-- What was found on a stack by its depths; a stack's values are listed from the top down.
use Rattle.std.specs.Prelude.{List, reverse, drop}
use Rattle.ink_choice.specs.declared.operands.Operands.{Operands}
use Rattle.ink_choice.specs.declared.operands.Words.{Words}
use Rattle.ink_model.specs.Choices.Making as rules
use Rattle.ink_model.specs.Choices.Making.{tags_first}
use Rattle.ink_model.specs.declared.value.Value.{Value}

-- a text, and the tags from a depth on
abbrev pub words_of : List Value → Words → rules.Words
words_of vs words = record { text = words.text.now; tags = reverse (tags_first (drop words.tags vs)) }

abbrev pub operands_of : List Value → Operands → rules.Operands
operands_of vs o = record {
  condition = o.condition;
  start = words_of vs o.start;
  choice_only = words_of vs o.choice_only;
  left = drop o.end vs;
}
