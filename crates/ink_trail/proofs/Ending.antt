-- Lists that grow at their end.
use Rattle.std.proofs.Common.{◌≡◌, ◌-◌, List, [], ◌∷◌, ◌++◌, ap, arith, length, refl, suc, take}
use Rattle.ink_trail.specs.Undo.{but_last}

pub but_last-snoc : {A : Type 0} → (xs : List A) (x : A) → but_last (xs ++ x ∷ []) ≡ xs
but_last-snoc [] x = refl
but_last-snoc (y ∷ []) x = refl
but_last-snoc (y ∷ z ∷ xs) x = ap (λ rest. y ∷ rest) (but_last-snoc (z ∷ xs) x)

pub but_last-take : {A : Type 0} → (xs : List A) → but_last xs ≡ take (length xs - 1) xs
but_last-take [] = refl
but_last-take (y ∷ []) = refl
but_last-take (y ∷ z ∷ xs) =
    let more : length (y ∷ z ∷ xs) - 1 ≡ suc (length (z ∷ xs) - 1) = omega arith in
    rw more (ap (λ rest. y ∷ rest) (but_last-take (z ∷ xs)))
