use Rattle.std.proofs.Common.{◌≡◌, ◌+◌}
use Rattle.std.specs.Option.{option_map}
use Rattle.ink_flows.specs.Standing.{hole_in, parts_of}
use Rattle.ink_flows.proofs.rows.hole.Given as goal

abbrev pub invariant-loop-index : goal.invariant-loop-index
invariant-loop-index l = hole_in (parts_of l.rows.entries) ≡ option_map (λ n. l.index-iterator.count + n) (hole_in l.index-iterator.iter)
