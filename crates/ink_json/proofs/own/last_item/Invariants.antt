use Rattle.std.proofs.Common.{◌≡◌, length, option_map}
use Rattle.json_tape.specs.Value.{json_data, items_left}
use Rattle.ink_model.specs.Story.Grammar.{own_of}
use Rattle.ink_json.proofs.Lasts.{last_with}
use Rattle.ink_json.proofs.own.last_item.Given as goal

-- the last of all is that of those that are left, or the one before them
abbrev pub invariant-loop-item : goal.invariant-loop-item
invariant-loop-item l = own_of (json_data l.array) ≡ last_with (option_map json_data l.last) (items_left l.items)

abbrev pub decreases-loop-item : goal.decreases-loop-item
decreases-loop-item l = length l.items.rest
