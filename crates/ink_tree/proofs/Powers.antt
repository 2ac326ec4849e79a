-- Powers of two.
use Rattle.std.proofs.Common.{◌≡◌, ◌∙◌, ◌⊎◌, inl, inr, ℕ}
use Rattle.std.specs.Int.{IsPowerOfTwo}

-- a power, or the least number of slots
pub power_or_least : (p n : ℕ) → (n ≡ p) ⊎ (n ≡ 1024) → IsPowerOfTwo p → IsPowerOfTwo n
power_or_least p n (inl same) (k, is) = (k, same ∙ is)
power_or_least p n (inr least) power = (10, least)
