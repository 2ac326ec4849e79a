use Rattle.std.proofs.Common.{◌≡◌, ◌-◌, ◌+◌, ◌≤◌, take, vec_capacity, vec_len}
use Rattle.ink_trail.specs.Undo.{Trails, spare, trail_of}
use Rattle.ink_value.specs.Undo.{StaysHeld, stack_back}
use Rattle.ink_value.proofs.undo.drop_noted.Given as goal

abbrev pub invariant-loop : goal.invariant-loop
invariant-loop l = record {
  items : l.items.items ≡ take (vec_len l.initial.items - l.counter) l.initial.items.items;
  len : vec_len l.items + l.counter ≡ vec_len l.initial.items;
  spare : l.count - l.counter ≤ spare l.trail;
  trail : Trails stack_back l.counter l.initial.items.items l.initial.trail l.items.items l.trail;
  held : StaysHeld (vec_capacity l.items) (trail_of l.trail.undo) l.items.items;
}
