use Rattle.std.proofs.Common.{◌≡◌, ◌+◌, ◌-◌, not, drop, length}
use Rattle.ink_out.proofs.Common.{prefix_len, is_white}
use Rattle.ink_out.proofs.cleaning.word_len.Given as goal

abbrev pub invariant-loop-at : goal.invariant-loop-at
invariant-loop-at l = prefix_len (λ byte. not (is_white byte)) l.text ≡ l.at + prefix_len (λ byte. not (is_white byte)) (drop l.at l.text)

abbrev pub decreases-loop-at : goal.decreases-loop-at
decreases-loop-at l = length l.text - l.at
