use Rattle.std.proofs.Common.{◌≡◌, drop}
use Rattle.serde_json.specs.View.{items_view}
use Rattle.ink_reader.specs.Whereabouts.{flow_named}
use Rattle.ink_reader.proofs.Flows.{left}
use Rattle.ink_reader.proofs.whereabouts.flow_named.Given as goal

abbrev pub invariant-loop-flow : goal.invariant-loop-flow
invariant-loop-flow l = left l.name (drop l.flow-index l.flows) ≡ flow_named l.name (items_view l.flows)
