-- What there is room for behind others.
use Rattle.std.proofs.Common.{◌<◌, Vec, ℕ, arith, length, reverse, vec_len}
use Rattle.std.proofs.lemmas.List.{length-reverse}

pub room_behind : {A L : Type 0} (v : Vec A L) (n : ℕ) → length (reverse v.items) < n → vec_len v < n
room_behind v n h = omega (arith, v.ok.0, length-reverse v.items, h)
