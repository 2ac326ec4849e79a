use Rattle.std.proofs.Common.{◌≡◌, ◌+◌, ◌<◌, ◌^◌, length}
use Rattle.json_tape.proofs.Common.{json_data, items_left, items_of, items_count}
use Rattle.json_tape.proofs.value.Value.len.Given as goal

-- those that were counted, and those that are left
abbrev pub invariant-loop-count : goal.invariant-loop-count
invariant-loop-count l = record {
  counted : items_count (items_of (json_data l.self)) ≡ l.count + items_count (items_left l.items);
  within : l.count + items_count (items_left l.items) < 2 ^ 32;
}

abbrev pub decreases-loop-count : goal.decreases-loop-count
decreases-loop-count l = length l.items.rest
