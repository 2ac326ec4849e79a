use Rattle.std.proofs.Common.{◌≡◌, reverse, length}
use Rattle.ink_out.specs.Walks.{left_pile}
use Rattle.ink_out.proofs.pile.drop_reached.Given as goal

abbrev pub invariant-loop-held : goal.invariant-loop-held
invariant-loop-held l = left_pile l.reach (reverse l.items.items) ≡ left_pile l.reach (reverse l.fn.items.items)

abbrev pub decreases-loop-held : goal.decreases-loop-held
decreases-loop-held l = length l.items.items
