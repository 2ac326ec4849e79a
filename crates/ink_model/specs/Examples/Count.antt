-- Visits and turns of containers, each proved by computation (docs/VARIABLES.md, "Counts").
use Rattle.std.specs.Prelude.{◌≡◌, ℕ, pos, negsuc, [], ◌∷◌, refl, true, false, Ok, Err}
use Rattle.std.specs.Ordering.{nat_cmp}
use Rattle.ink_model.specs.Variables.Counts.{CountsOf, turns_since, visited, visits_of}
use Rattle.ink_model.specs.declared.fault.Fault.TheVariants as fault

abbrev none : CountsOf ℕ
none = record { visits = []; turns = [] }

-- flags 3: visits are counted and turns noted
first_visit : visited nat_cmp 4 3 true 2 none ≡ record { visits = (4, 1) ∷ []; turns = (4, 2) ∷ [] }
first_visit = refl

-- a row stands where its container belongs
another_container : visited nat_cmp 1 1 false 2 (visited nat_cmp 4 3 true 2 none) ≡ record { visits = (1, 1) ∷ (4, 1) ∷ []; turns = (4, 2) ∷ [] }
another_container = refl

second_visit : visits_of nat_cmp 4 3 (visited nat_cmp 4 3 true 5 (visited nat_cmp 4 3 true 2 none)) ≡ Ok (pos 2)
second_visit = refl

turns_since_the_last : turns_since nat_cmp 4 3 9 (visited nat_cmp 4 3 true 5 (visited nat_cmp 4 3 true 2 none)) ≡ Ok (pos 4)
turns_since_the_last = refl

never_entered : turns_since nat_cmp 4 2 9 none ≡ Ok (negsuc 0)
never_entered = refl

-- flags 5: only entry at the start counts
in_the_middle : visited nat_cmp 4 5 false 2 none ≡ none
in_the_middle = refl

at_the_start : visited nat_cmp 4 5 true 2 none ≡ record { visits = (4, 1) ∷ []; turns = [] }
at_the_start = refl

-- a count stays at the most that it comes to
full : visited nat_cmp 4 1 true 2 (record { visits = (4, 2147483647) ∷ []; turns = [] }) ≡ record { visits = (4, 2147483647) ∷ []; turns = [] }
full = refl

visits_not_counted : visits_of nat_cmp 4 2 none ≡ Err fault.NotCounted
visits_not_counted = refl

turns_not_noted : turns_since nat_cmp 4 1 9 none ≡ Err fault.NotCounted
turns_not_noted = refl
