use Rattle.std.proofs.Common.{arith}
use Rattle.std.proofs.lemmas.Str.Pattern.{strip_prefix_char}
use Rattle.json_tape.proofs.Sorts.{is_string}
use Rattle.json_tape.specs.Value.{json_data}
use Rattle.ink_json.proofs.Words.{string_leaf_word, word_known}
use Rattle.ink_json.proofs.leaf.word_in.Goals as goal

pub returns-in-None : goal.returns-in-None
returns-in-None c =
    let d = json_data c.args.value.now in
    let text = c.in_ok-text.text.now in
    let other = rw c.in-None.is at (strip_prefix_char 94 text c.strip_prefix.result c.strip_prefix.ensures.cases (omega arith)) in
    word_known d text c.word_leaf.result (is_string d text c.in_ok-text.ensures) (string_leaf_word text other) c.word_leaf.ensures
