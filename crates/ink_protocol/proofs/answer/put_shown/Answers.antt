use Rattle.std.proofs.Common.{◌∙◌, ◌++◌, ap, sym}
use Rattle.json.specs.Print.{escape}
use Rattle.serde_json.specs.Written.{compact_text}
use Rattle.ink_protocol.proofs.Answering.{choice_of, made_as}
use Rattle.ink_protocol.proofs.answer.put_shown.Goals as goal

pub put_plain_choice-requires : goal.put_plain_choice-requires
put_plain_choice-requires c = ap escape (sym c.as_bytes.ensures.value) ∙ c.if-is_plain.ensures ∙ c.as_bytes.ensures.value

pub returns-then-is_plain : goal.returns-then-is_plain
returns-then-is_plain c =
    let same = choice_of c.args.choice.now c.as_str-text.result.now (sym c.as_slice.ensures ∙ c.has_none.ensures c.if-has_none.true) c.as_str-text.ensures in
    made_as c.put_plain_choice.result _ _ _ c.put_plain_choice.ensures (ap (λ d. c.args.line.now.items ++ compact_text d) same)
