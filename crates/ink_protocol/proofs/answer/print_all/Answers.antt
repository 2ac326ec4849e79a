use Rattle.ink_model.specs.Protocol.ValueJson.{value_data}
use Rattle.ink_protocol.proofs.Answering.{last_item, one_item}
use Rattle.ink_protocol.proofs.answer.print_all.Goals as goal

pub loop-value-preserved : goal.loop-value-preserved
loop-value-preserved c =
    one_item value_data c.loop-value.line.items c.loop-value.follows c.loop-value.value-index c.args.values.now c.value-item.result _ _ _ c.loop-value-test.true c.value-item.is c.in_ok-put_comma.ensures
    c.in_ok-print_value.ensures c.loop-value.invariant

pub returns : goal.returns
returns c = last_item value_data c.loop-value.line.items c.loop-value.follows c.loop-value.value-index c.args.values.now _ _ c.loop-value-test.false c.in_ok-push.ensures.items c.loop-value.invariant
