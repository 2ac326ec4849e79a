use Rattle.serde_json.specs.Data.{string}
use Rattle.ink_protocol.proofs.Answering.{last_item, one_item}
use Rattle.ink_protocol.proofs.answer.print_texts.Goals as goal

pub loop-text-preserved : goal.loop-text-preserved
loop-text-preserved c =
    let put = rw c.as_str.ensures at c.in_ok-print_string.ensures in
    one_item string c.loop-text.line.items c.loop-text.begun c.loop-text.text-index c.args.texts.now c.text-item.result _ _ _ c.loop-text-test.true c.text-item.is c.in_ok-put_comma.ensures put c.loop-text.invariant

pub returns : goal.returns
returns c = last_item string c.loop-text.line.items c.loop-text.begun c.loop-text.text-index c.args.texts.now _ _ c.loop-text-test.false c.in_ok-push.ensures.items c.loop-text.invariant
