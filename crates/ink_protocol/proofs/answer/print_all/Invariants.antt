use Rattle.std.proofs.Common.{◌≡◌, ◌++◌, drop, false, map}
use Rattle.serde_json.specs.Written.{items_text}
use Rattle.ink_model.specs.Protocol.Answer.{items_of}
use Rattle.ink_model.specs.Protocol.ValueJson.{value_data}
use Rattle.ink_protocol.proofs.answer.print_all.Given as goal

-- what is still to come from here is what was to come at the start
abbrev pub invariant-loop-value : goal.invariant-loop-value
invariant-loop-value l = l.line.items ++ items_text l.follows (items_of (map value_data (drop l.value-index l.values))) ≡ l.fn.line.items ++ items_text false (items_of (map value_data l.values))
