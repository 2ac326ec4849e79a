-- How many bytes of a kind stand at an end of a text, as loops count them.
use Rattle.std.proofs.Common.{◌≡◌, ◌<◌, ◌≤◌, ◌+◌, ◌-◌, ℕ, Bool, true, false, List, arith, drop, get_or, length, take}
use Rattle.std.specs.List.{prefix_len, suffix_len}
use Rattle.std.proofs.lemmas.List.Sums.{prefix_len-drop_no, prefix_len-drop_yes, suffix_len-take_no, suffix_len-take_yes}

module _ (p : ℕ → Bool) (xs : List ℕ) (i n : ℕ) where
  pub prefix_more : i < length xs → p (get_or xs i 0) ≡ true → n ≡ i + prefix_len p (drop i xs) → n ≡ i + 1 + prefix_len p (drop (i + 1) xs)
  prefix_more within holds is = omega (arith, is, prefix_len-drop_yes p xs i 0 within holds)

  pub prefix_here : i < length xs → p (get_or xs i 0) ≡ false → n ≡ i + prefix_len p (drop i xs) → i ≡ n
  prefix_here within fails is = omega (arith, is, prefix_len-drop_no p xs i 0 within fails)

  pub suffix_more : 0 < i → i ≤ length xs → p (get_or xs (i - 1) 0) ≡ true → n ≡ length xs - i + suffix_len p (take i xs) → n ≡ length xs - (i - 1) + suffix_len p (take (i - 1) xs)
  suffix_more some within holds is = omega (arith, some, within, is, suffix_len-take_yes p xs i 0 some within holds)

  pub suffix_here : 0 < i → i ≤ length xs → p (get_or xs (i - 1) 0) ≡ false → n ≡ length xs - i + suffix_len p (take i xs) → length xs - i ≡ n
  suffix_here some within fails is = omega (arith, is, suffix_len-take_no p xs i 0 some within fails)
