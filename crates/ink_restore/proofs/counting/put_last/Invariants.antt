use Rattle.std.proofs.Common.{◌≡◌, ◌-◌, ◌≤◌, length}
use Rattle.ink_vars.specs.Slots.{AreCounts, rows_from}
use Rattle.ink_restore.proofs.counting.put_last.Given as goal

abbrev pub invariant-loop-slots : goal.invariant-loop-slots
invariant-loop-slots l = record {
  rows : rows_from 0 l.slots.items ≡ rows_from 0 l.initial.slots.items;
  counts : AreCounts l.initial.slots.items → AreCounts l.slots.items;
  most : length l.slots.items ≤ l.number;
}

abbrev pub decreases-loop-slots : goal.decreases-loop-slots
decreases-loop-slots l = l.number - length l.slots.items
