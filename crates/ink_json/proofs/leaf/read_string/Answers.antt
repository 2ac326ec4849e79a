use Rattle.std.proofs.Common.{arith}
use Rattle.std.proofs.lemmas.Str.Pattern.{strip_prefix_char}
use Rattle.ink_json.proofs.Words.{string_leaf_word}
use Rattle.ink_json.proofs.leaf.read_string.Goals as goal

pub returns-in-None : goal.returns-in-None
returns-in-None c =
    let other = rw c.in-None.is at (strip_prefix_char 94 c.args.text.now c.strip_prefix.result c.strip_prefix.ensures.cases (omega arith)) in
    rw (string_leaf_word c.args.text.now other) c.read_word.ensures
