use Rattle.std.proofs.Common.{◌≡◌, ◌++◌, drop, false, map}
use Rattle.serde_json.specs.Written.{items_text}
use Rattle.ink_model.specs.Protocol.Answer.{items_of, shown_data}
use Rattle.ink_protocol.proofs.answer.put_shown_all.Given as goal

-- what is still to come from here is what was to come at the start
abbrev pub invariant-loop-choice : goal.invariant-loop-choice
invariant-loop-choice l = l.line.items ++ items_text l.later (items_of (map shown_data (drop l.choice-index l.choices))) ≡ l.fn.line.items ++ items_text false (items_of (map shown_data l.choices))
