use Rattle.json_tape.specs.Value.{json_data, items_left}
use Rattle.ink_json.proofs.Lasts.{last_own_of}
use Rattle.ink_json.proofs.own.last_item.Goals as goal

pub loop-item-init : goal.loop-item-init
loop-item-init c = last_own_of (json_data c.args.array.now) (items_left c.in_ok-items.items) c.in_ok-items.ensures
