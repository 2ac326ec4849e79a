use Rattle.std.proofs.Common.{◌≡◌, ◌⊎◌, ◌<◌, ◌≤◌, ◌+◌, ◌-◌, get_or, length}
use Rattle.ink_out.proofs.Lines.{Passed}
use Rattle.ink_out.proofs.cleaning.words_len.Given as goal

-- words were passed, and a space behind them or nothing
abbrev pub invariant-words : goal.invariant-words
invariant-words l = (0 < l.len) × (l.at ≤ length l.text) × Passed l.text l.len × ((l.at ≡ l.len) ⊎ ((l.at ≡ l.len + 1) × (get_or l.text l.len 0 ≡ 32)))

abbrev pub decreases-words : goal.decreases-words
decreases-words l = length l.text - l.at
