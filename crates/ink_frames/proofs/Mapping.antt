-- A list whose items are changed one by one, from the front.
use Rattle.std.proofs.Common.{◌≡◌, ◌∙◌, ◌≤◌, ℕ, zero, suc, ◌+◌, ◌-◌, ◌<◌, List, [], ◌∷◌, ◌++◌, ap, length, get_or, set, take, drop, length-drop, map, refl, append_assoc, arith, sym}
use Rattle.std.proofs.lemmas.List.{append-nil, drop_all, take_more_set, drop-set-lt, drop_more, take_all, take_more, take-append-le, drop_at, map_more}

pub map_step : {X : Type 0} (f : X → X) (xs : List X) (i : ℕ) (d y : X) → i < length xs → y ≡ f (get_or xs i d)
    → take (i + 1) (set xs i y) ++ map f (drop (i + 1) (set xs i y)) ≡ take i xs ++ map f (drop i xs)
map_step f xs i d y h made =
    rw (take_more_set xs i y h, drop-set-lt (i + 1) xs i y (omega arith), drop_more xs i d h, made, append_assoc) refl

-- all are changed
pub map_done : {X : Type 0} (f : X → X) (xs ys : List X) (i : ℕ) → length xs ≤ i → take i xs ++ map f (drop i xs) ≡ ys → xs ≡ ys
map_done f xs ys i all h = sym (append-nil xs) ∙ ap (λ zs. zs ++ []) (sym (take_all i xs all)) ∙ ap (λ zs. take i xs ++ map f zs) (sym (drop_all i xs all)) ∙ h

-- those from an index on are changed
pub map_end : {X : Type 0} (f : X → X) (xs new : List X) (i : ℕ) → i ≤ length xs → new ≡ map f (take (length xs - i) (drop i xs)) → take i xs ++ (new ++ drop (length xs - i) (drop i xs)) ≡ take i xs ++ map f (drop i xs)
map_end f xs new i inside is =
    let left : length (drop i xs) ≤ length xs - i = omega (arith, length-drop i xs) in
    ap (λ zs. take i xs ++ zs) (ap (λ zs. new ++ zs) (drop_all (length xs - i) (drop i xs) left) ∙ append-nil new ∙ is ∙ ap (map f) (take_all (length xs - i) (drop i xs) left))

pub map_id : {X : Type 0} (xs : List X) → map (λ x. x) xs ≡ xs
map_id [] = refl
map_id (x ∷ xs) = ap (λ ys. x ∷ ys) (map_id xs)

pub none_seen : {A B : Type 0} (f : A → B) (n : ℕ) → map f (take n []) ≡ []
none_seen f zero = refl
none_seen f (suc n) = refl

-- copies of the first ones, and one more
pub copied_on : {X : Type 0} (xs copies new : List X) (i : ℕ) (copy item : X) → i < length xs → new ≡ copies ++ copy ∷ [] → copies ≡ take i xs → copy ≡ item → item ≡ get_or xs i item → new ≡ take (i + 1) xs
copied_on xs copies new i copy item within pushed before same is =
    pushed ∙ ap (λ cs. cs ++ copy ∷ []) before ∙ ap (λ c. take i xs ++ c ∷ []) (same ∙ is) ∙ sym (take_more xs i item within)

-- one more of these stands behind others, changed
pub mapped_on : {X Y : Type 0} (f : X → Y) (old : List Y) (xs : List X) (ys new : List Y) (i : ℕ) (item : X) (y : Y) → i < length xs → new ≡ ys ++ y ∷ [] → ys ≡ old ++ map f (take i xs)
    → y ≡ f item → item ≡ get_or xs i item → new ≡ old ++ map f (take (i + 1) xs)
mapped_on f old xs ys new i item y within pushed before changed is =
    pushed ∙ ap (λ zs. zs ++ y ∷ []) before ∙ append_assoc old (map f (take i xs)) (y ∷ []) ∙ ap (λ z. old ++ (map f (take i xs) ++ z ∷ [])) (changed ∙ ap f is)
    ∙ ap (λ zs. old ++ zs) (sym (map_more f xs i item within))

-- what was put behind others is turned in front of them
pub turned : {X : Type 0} (old more all new : List X) (n : ℕ) → n ≡ length old → all ≡ old ++ more → new ≡ drop n all ++ take n all → new ≡ more ++ old
turned old more all new n many behind is =
    is ∙ ap (λ xs. drop n xs ++ take n xs) behind ∙ ap (λ xs. xs ++ take n (old ++ more)) (drop_at old more n (sym many))
    ∙ ap (λ xs. more ++ xs) (take-append-le n old more (omega (arith, many)) ∙ take_all n old (omega (arith, many)))
