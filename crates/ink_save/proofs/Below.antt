-- Rows below a number.
use Rattle.std.proofs.Common.{◌≡◌, ◌∙◌, ap, refl, ℕ, zero, suc, ◌+◌, ◌<◌, ◌≤◌, length, List, [], ◌∷◌, take, true, false, nat_lt, Option, Some, None, arith}
use Rattle.std.proofs.lemmas.Bool.Decides.{nat_tests}
use Rattle.std.proofs.lemmas.List.{take_all}
use Rattle.ink_model.specs.Variables.Counts.{CountsOf}
use Rattle.ink_model.specs.Story.Places.{places}
use Rattle.ink_model.specs.Story.Tree.{StoryTree}
use Rattle.ink_restore.specs.Counted.{AreBelow, AreOwn, counts_at, rows_at}
use Rattle.ink_step.specs.Standing.{counts_in, rows_below}
use Rattle.ink_vars.specs.Slots.{rows_from}

-- ---- of slots

none_below : (m k : ℕ) (xs : List (Option ℕ)) → m ≤ k → rows_below m (rows_from k xs) ≡ []
none_below m k [] h = refl
none_below m k (None ∷ xs) h = none_below m (k + 1) xs (omega (arith, h))
none_below m k (Some v ∷ xs) h = let past : nat_lt k m ≡ false = grind (arith, nat_tests, h) in rw past refl

taken : (k j : ℕ) (xs : List (Option ℕ)) → rows_below (k + j) (rows_from k xs) ≡ rows_from k (take j xs)
taken k zero [] = refl
taken k zero (o ∷ xs) = none_below (k + 0) k (o ∷ xs) (omega arith)
taken k (suc j) [] = refl
taken k (suc j) (None ∷ xs) =
    let same : k + suc j ≡ k + 1 + j = omega arith in
    ap (λ n. rows_below n (rows_from (k + 1) xs)) same ∙ taken (k + 1) j xs
taken k (suc j) (Some v ∷ xs) =
    let same : k + suc j ≡ k + 1 + j = omega arith in
    let lower : k < k + suc j = omega arith in
    let there : nat_lt k (k + suc j) ≡ true = grind (arith, nat_tests, lower) in
    rw there (ap (λ rs. (k, v) ∷ rs) (ap (λ n. rows_below n (rows_from (k + 1) xs)) same ∙ taken (k + 1) j xs))

pub first_below : (n : ℕ) (xs : List (Option ℕ)) → rows_below n (rows_from 0 xs) ≡ rows_from 0 (take n xs)
first_below n xs = let same : n ≡ 0 + n = omega arith in ap (λ m. rows_below m (rows_from 0 xs)) same ∙ taken 0 n xs

pub all_below : (n : ℕ) (xs : List (Option ℕ)) → length xs ≤ n → rows_below n (rows_from 0 xs) ≡ rows_from 0 xs
all_below n xs h = first_below n xs ∙ ap (rows_from 0) (take_all n xs h)

-- ---- where all are

all_own : (k : ℕ) (rows : List (ℕ × ℕ)) → AreBelow k rows → rows_below k rows ≡ rows
all_own k [] h = refl
all_own k (r ∷ rs) h =
    let lower : nat_lt r.0 k ≡ true = grind (arith, nat_tests, h.0) in
    rw lower (ap (λ xs. r ∷ xs) (all_own k rs h.1))

pub own_counts : (s : StoryTree) (counts : CountsOf ℕ) → AreOwn s counts → counts_in s counts ≡ counts_at s counts
own_counts s counts own =
    ap (λ rows. record { visits = rows_at s rows; turns = rows_at s (rows_below (length (places s)) counts.turns) }) (all_own (length (places s)) counts.visits own.visits)
    ∙ ap (λ rows. record { visits = rows_at s counts.visits; turns = rows_at s rows }) (all_own (length (places s)) counts.turns own.turns)
