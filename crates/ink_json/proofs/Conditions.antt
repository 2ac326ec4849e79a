-- Conditions that hold.
use Rattle.std.proofs.Common.{◌≡◌, ℕ, ◌≤◌, false, nat_lt, arith}
use Rattle.std.proofs.lemmas.Bool.Decides.{nat_tests}

pub not_above : (most n : ℕ) → n ≤ most → nat_lt most n ≡ false
not_above most n h = grind (arith, nat_tests)
