use Rattle.ink_model.specs.Protocol.Answer.{shown_data}
use Rattle.ink_protocol.proofs.Answering.{last_item, one_item}
use Rattle.ink_protocol.proofs.answer.put_shown_all.Goals as goal

pub loop-choice-preserved : goal.loop-choice-preserved
loop-choice-preserved c =
    one_item shown_data c.loop-choice.line.items c.loop-choice.later c.loop-choice.choice-index c.args.choices.now c.choice-item.result _ _ _ c.loop-choice-test.true c.choice-item.is c.in_ok-put_comma.ensures c.in_ok-put_shown.ensures c.loop-choice.invariant

pub returns : goal.returns
returns c = last_item shown_data c.loop-choice.line.items c.loop-choice.later c.loop-choice.choice-index c.args.choices.now _ _ c.loop-choice-test.false c.in_ok-push.ensures.items c.loop-choice.invariant
