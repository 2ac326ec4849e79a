use Rattle.ink_model.specs.Host.Events.{event_data}
use Rattle.ink_protocol.proofs.Answering.{last_item, one_item}
use Rattle.ink_protocol.proofs.events.print_events.Goals as goal

pub loop-event-preserved : goal.loop-event-preserved
loop-event-preserved c =
    one_item event_data c.loop-event.line.items c.loop-event.follows c.loop-event.event-index c.args.events.now c.event-item.result _ _ _ c.loop-event-test.true c.event-item.is c.in_ok-put_comma.ensures
    c.in_ok-print_event.ensures c.loop-event.invariant

pub returns : goal.returns
returns c = last_item event_data c.loop-event.line.items c.loop-event.follows c.loop-event.event-index c.args.events.now _ _ c.loop-event-test.false c.in_ok-push.ensures.items c.loop-event.invariant
