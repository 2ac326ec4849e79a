use Rattle.std.proofs.Common.{◌∙◌, string_bytes}
use Rattle.ink_page.proofs.Questions.{value_pushed}
use Rattle.ink_page.proofs.question.put_value.Goals as goal

pub returns : goal.returns
returns c =
    value_pushed c.push_str.result c.args.value.now _ _ (string_bytes c.args.text.now) (string_bytes c.push_str.new.self) c.as_str.result.now c.new-out.ensures.tokens c.in_ok-write_value.ensures
    (c.as_str.ensures.value ∙ c.printed.ensures) c.push_str.ensures.bytes
