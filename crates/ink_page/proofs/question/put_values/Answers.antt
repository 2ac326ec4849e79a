use Rattle.std.proofs.Common.{◌++◌, ap, string_bytes}
use Rattle.ink_page.proofs.Questions.{listed_from_start, no_value, one_value}
use Rattle.ink_page.proofs.question.put_values.Goals as goal

pub loop-value-init : goal.loop-value-init
loop-value-init c = ap (λ l. string_bytes c.args.text.now ++ l) (listed_from_start c.args.values.now)

pub loop-value-preserved : goal.loop-value-preserved
loop-value-preserved c =
    one_value (string_bytes c.loop-value.text) c.loop-value.follows c.loop-value.value-index c.args.values.now c.value-item.result _ _ _ c.loop-value-test.true c.value-item.is
    c.in_ok-put_comma.ensures c.in_ok-put_value.ensures c.loop-value.invariant

pub returns : goal.returns
returns c = no_value (string_bytes c.loop-value.text) c.loop-value.follows c.loop-value.value-index c.args.values.now _ c.loop-value-test.false c.loop-value.invariant
