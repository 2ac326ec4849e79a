-- Lists that are seen from their end.
use Rattle.std.proofs.Common.{◌≡◌, ◌≢◌, ◌∙◌, ◌-◌, ℕ, List, [], ◌∷◌, ◌++◌, Option, Some, None, ap, arith, drop, length, map, option_to_list, refl, reverse, subst, sym, take}
use Rattle.std.proofs.lemmas.List.{append-nil, length-take-le, map-append, reverse-append, reverse-reverse}

pub map-reverse : {X Y : Type 0} (f : X → Y) (xs : List X) → map f (reverse xs) ≡ reverse (map f xs)
map-reverse f [] = refl
map-reverse f (x ∷ xs) =
    ap (map f) (reverse-append (x ∷ []) xs) ∙ map-append f (reverse xs) (x ∷ [])
    ∙ ap (λ ys. ys ++ f x ∷ []) (map-reverse f xs) ∙ sym (reverse-append (f x ∷ []) (map f xs))

pub some_reversed : {X : Type 0} (xs : List X) → xs ≢ [] → reverse xs ≢ []
some_reversed xs some none = some (sym (reverse-reverse xs) ∙ ap reverse none)

-- without the last one
pub popped_gone : {X : Type 0} (items rest : List X) (o : Option X) (n : ℕ) → n ≡ length items → items ≡ rest ++ option_to_list o → rest ≡ take (n - 1) items → reverse rest ≡ drop 1 (reverse items)
popped_gone items rest (Some x) n many whole left = sym (ap (drop 1) (ap reverse whole ∙ reverse-append rest (x ∷ [])))
popped_gone [] rest None n many whole left = subst (λ xs. reverse xs ≡ drop 1 (reverse [])) (whole ∙ append-nil rest) refl
popped_gone (y ∷ ys) rest None n many whole left =
    absurd (omega (arith, many, ap length (whole ∙ append-nil rest), ap length left, length-take-le (n - 1) (y ∷ ys) (omega (arith, many))))
