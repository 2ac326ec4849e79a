-- What a word stands for that was not found in the tables before.
use Rattle.std.specs.Prelude.{ℕ, List, Option}
use Rattle.std.specs.Option.{option_or}
use Rattle.ink_model.specs.Story.Word.{meant, evaluation_words, section_words, frame_words, count_words, operator_word, comparison_words, logic_words, number_words}
use Rattle.ink_model.specs.declared.content.Leaf.{Leaf}

abbrev pub logic_word : List ℕ → Option Leaf
logic_word s = option_or (meant s logic_words) (meant s number_words)

abbrev pub comparison_word : List ℕ → Option Leaf
comparison_word s = option_or (meant s comparison_words) (logic_word s)

abbrev pub count_word : List ℕ → Option Leaf
count_word s = option_or (meant s count_words) (operator_word s)

abbrev pub frame_word : List ℕ → Option Leaf
frame_word s = option_or (meant s frame_words) (count_word s)

abbrev pub section_word : List ℕ → Option Leaf
section_word s = option_or (meant s section_words) (frame_word s)

abbrev pub evaluation_word : List ℕ → Option Leaf
evaluation_word s = option_or (meant s evaluation_words) (section_word s)
