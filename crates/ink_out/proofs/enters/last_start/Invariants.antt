use Rattle.std.proofs.Common.{◌≡◌, reverse, length}
use Rattle.ink_out.specs.Stands.{started}
use Rattle.ink_out.proofs.enters.last_start.Given as goal

abbrev pub invariant-loop-last : goal.invariant-loop-last
invariant-loop-last l = started l.number (reverse l.rest) ≡ started l.number (reverse l.starts)

abbrev pub decreases-loop-last : goal.decreases-loop-last
decreases-loop-last l = length l.rest
