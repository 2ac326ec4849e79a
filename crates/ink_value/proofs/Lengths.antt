-- Lists of parts that are the same are as long as one another.
use Rattle.std.proofs.Common.{◌≡◌, ◌≢◌, List, [], ◌∷◌, length, false, suc, refl, arith, ap}
use Rattle.ink_model.specs.Values.Value.{same_parts}
use Rattle.ink_model.specs.declared.place.Part.{Part}

pub same_length : (ps qs : List Part) → length ps ≢ length qs → same_parts ps qs ≡ false
same_length [] [] h = absurd (h refl)
same_length [] (q ∷ qs) h = refl
same_length (p ∷ ps) [] h = refl
same_length (p ∷ ps) (q ∷ qs) h = grind (arith, same_length ps qs (λ e. h (ap suc e)))
