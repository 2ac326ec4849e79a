use Rattle.std.proofs.Common.{Ok, sym, ap, ◌∙◌}
use Rattle.ink_model.specs.declared.value.Value.TheVariants.{Text}
use Rattle.ink_value.proofs.Operands.{text_before}
use Rattle.ink_value.proofs.operate.before_text.Goals as goal

pub returns-in_ok-left-in-Text-clause-result : goal.returns-in_ok-left-in-Text-clause-result
returns-in_ok-left-in-Text-clause-result c =
    text_before c.args.operator c.args.left.now c.args.right.now c.as_str.result.now c.as_str-in-Text.result.now c.of_texts.result c.requires.number
    (c.in_ok-left-in-Text.ensures.result ∙ ap Ok (sym c.as_str.ensures)) (c.in-Text.is ∙ ap Text (sym c.as_str-in-Text.ensures)) c.of_texts.ensures.result
