use Rattle.ink_reader.proofs.Flows.{last_is}
use Rattle.ink_reader.proofs.whereabouts.last_item.Goals as goal

pub returns : goal.returns
returns c = last_is c.args.items.now c.last.result c.last.ensures.value
