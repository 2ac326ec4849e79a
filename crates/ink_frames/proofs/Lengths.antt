-- How long lists are, and what there is room for.
use Rattle.std.proofs.Common.{◌≡◌, ◌≢◌, ◌∙◌, ◌<◌, ◌≤◌, ℕ, List, [], ◌∷◌, Vec, ap, arith, length, refl, Result, Ok, Err, OnErr, take, vec_capacity, vec_len}
use Rattle.std.proofs.lemmas.List.{length-take-le}

-- two lists that are others now
pub no_longer : {A B : Type 0} (xs now : List A) (ys after : List B) → now ≡ xs → after ≡ ys → length xs ≤ length ys → length now ≤ length after
no_longer xs now ys after first second h = omega (arith, ap length first, ap length second, h)

-- a list of the first ones has room for the next
pub room_next : {A L : Type 0} (v : Vec A L) (xs : List A) (i n : ℕ) → v.items ≡ take i xs → i < n → n ≡ length xs → length xs ≤ vec_capacity v → vec_len v < vec_capacity v
room_next v xs i n is inside whole fits = omega (arith, v.ok.0, ap length is, length-take-le i xs (omega (arith, inside, whole)), inside, whole, fits)

-- a list that is counted is not empty, whatever fails after that
pub some_on_err : {A U E : Type 0} (xs : List A) (r : Result U E) (n : ℕ) → n ≡ length xs → n ≢ 0 → OnErr r (xs ≢ [])
some_on_err xs (Ok u) n many some = tt
some_on_err xs (Err e) n many some = λ none. some (many ∙ ap length none)

pub none_counted : {A : Type 0} (xs : List A) (n : ℕ) → n ≡ length xs → n ≡ 0 → [] ≡ xs
none_counted [] n many none = refl
none_counted (x ∷ xs) n many none = absurd (omega arith)

pub none_there : {A : Type 0} (xs : List A) → length xs ≤ 0 → xs ≡ []
none_there [] few = refl
none_there (x ∷ xs) few = absurd (omega arith)
