use Rattle.std.proofs.Common.{◌≡◌, ◌++◌, drop, false, map}
use Rattle.serde_json.specs.Data.{string}
use Rattle.serde_json.specs.Written.{items_text}
use Rattle.ink_model.specs.Protocol.Answer.{items_of}
use Rattle.ink_protocol.proofs.answer.print_texts.Given as goal

-- what is still to come from here is what was to come at the start
abbrev pub invariant-loop-text : goal.invariant-loop-text
invariant-loop-text l = l.line.items ++ items_text l.begun (items_of (map string (drop l.text-index l.texts))) ≡ l.fn.line.items ++ items_text false (items_of (map string l.texts))
