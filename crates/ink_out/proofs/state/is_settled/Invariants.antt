use Rattle.std.proofs.Common.{◌≡◌, ℕ, ◌≤◌, length, reverse, take}
use Rattle.ink_model.specs.Text.Shown.{is_among}
use Rattle.ink_out.specs.Stands.{Falling}
use Rattle.ink_out.proofs.state.is_settled.Given as goal

abbrev pub invariant-loop-end : goal.invariant-loop-end
invariant-loop-end l =
    (l.end ≤ length l.settled)
    × ((n : ℕ) → Falling n (reverse l.settled) → (k : ℕ) × Falling k (reverse (take l.end l.settled)) × (is_among l.index (reverse l.settled) ≡ is_among l.index (reverse (take l.end l.settled))))

abbrev pub decreases-loop-end : goal.decreases-loop-end
decreases-loop-end l = l.end
