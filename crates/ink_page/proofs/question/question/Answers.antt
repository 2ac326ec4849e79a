use Rattle.std.proofs.Common.{◌∙◌}
use Rattle.ink_page.proofs.Questions.{question_shown}
use Rattle.ink_page.proofs.question.question.Goals as goal

pub returns-clause-words : goal.returns-clause-words
returns-clause-words c =
    question_shown c.args.look c.line_page.result c.args.name.now c.args.arguments.now _ _ _ c.as_str.result.now c.in_ok-text.ensures.ok c.in_ok-push_str.ensures.bytes c.in_ok-put_values.ensures
    (c.as_str.ensures.value ∙ c.in_ok-push_str-2.ensures.bytes) c.line_page.ensures.page
