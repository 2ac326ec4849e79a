-- Five lists that are added one by one.
use Rattle.std.proofs.Common.{◌≡◌, List, ◌++◌, append_assoc, refl}

pub one_by_one : {X : Type 0} (rs a b c d e : List X) → rs ++ a ++ b ++ c ++ d ++ e ≡ rs ++ (a ++ b ++ c ++ d ++ e)
one_by_one rs a b c d e = simp append_assoc refl
