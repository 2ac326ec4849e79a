use Rattle.std.proofs.Common.{◌≡◌, ◌++◌, drop, false, map}
use Rattle.serde_json.specs.Written.{items_text}
use Rattle.ink_model.specs.Host.Events.{event_data, items_of}
use Rattle.ink_protocol.proofs.events.print_events.Given as goal

-- what is still to come from here is what was to come at the start
abbrev pub invariant-loop-event : goal.invariant-loop-event
invariant-loop-event l = l.line.items ++ items_text l.follows (items_of (map event_data (drop l.event-index l.events))) ≡ l.fn.line.items ++ items_text false (items_of (map event_data l.events))
