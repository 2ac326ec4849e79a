-- How far a Leave reaches back.
use Rattle.std.proofs.Common.{◌≡◌, ℕ, ◌<◌, ◌≤◌, true, false, not, ◌||◌, cond, eqb, List, [], ◌∷◌, length, Option, None, Some, refl, sym, arith, inl, inr}
use Rattle.std.proofs.lemmas.Bool.{cases_lt, or_cases, or_parts, or_from, or_left, or_right, not-false, not_from_true, false≢true, lt-ltb, le-ltb, le-leb, lt-leb}
use Rattle.ink_model.specs.Text.Shown.{has_enter, passes, covered}
use Rattle.ink_out.proofs.Common.{Mark, Text, Enter, Leave}
use Rattle.ink_out.specs.Tracks.{since, enter_at, reach_of, reached}

-- ---- fewer marks between, more is reached

abbrev Within : List Mark → List Mark → Type 0
Within b a = (n : ℕ) → has_enter n b ≡ true → has_enter n a ≡ true

within_enter : (b a : List Mark) (k : ℕ) → Within b a → Within (Enter k ∷ b) (Enter k ∷ a)
within_enter b a k w n h =
    elim (or_cases (eqb n k) (has_enter n b) h) [ inl e ↦ or_left (eqb n k) (has_enter n a) e | inr e ↦ or_right (eqb n k) (has_enter n a) (w n e) ]

passes_less : (b a : List Mark) (n : Option ℕ) → Within b a → passes n b ≡ false → passes n a ≡ false
passes_less b a None w h = h
passes_less b a (Some n) w h = not_from_true (has_enter n a) (w n (not-false (has_enter n b) h))

covered_less : (b a after : List Mark) → Within b a → covered b after ≡ false → covered a after ≡ false
covered_less b a [] w h = refl
covered_less b a (Text t ∷ after) w h = refl
covered_less b a (Leave n ∷ after) w h =
    let (p, r) = or_parts (passes n b) (covered (Leave n ∷ b) after) h in
    or_from (passes n a) (covered (Leave n ∷ a) after) (passes_less b a n w p) (covered_less (Leave n ∷ b) (Leave n ∷ a) after w r)
covered_less b a (Enter k ∷ after) w h = covered_less (Enter k ∷ b) (Enter k ∷ a) after (within_enter b a k w) h
covered_less b a (m ∷ after) w h = covered_less (m ∷ b) (m ∷ a) after w h

pub uncovered : (a after : List Mark) → covered [] after ≡ false → covered a after ≡ false
uncovered a after h = covered_less [] a after (λ n e. absurd (false≢true e)) h

-- ---- the marks behind an index

pub since_more : (m : Mark) (before : List Mark) (at : ℕ) → at < length before → since (m ∷ before) at ≡ m ∷ since before at
since_more m before at h = rw (lt-ltb at (length before) h) refl

pub since_here : (m : Mark) (before : List Mark) → since (m ∷ before) (length before) ≡ []
since_here m before = rw (le-ltb (length before) (length before) (omega arith)) refl

-- ---- an Enter's index

reached_past : (n at : ℕ) (before : List Mark) → length before ≤ at → reached at (enter_at n before) ≡ true
reached_past n at [] h = refl
reached_past n at (Enter k ∷ before) h =
    elim (eqb n k) as (λ b. reached at (cond b (Some (length before)) (enter_at n before)) ≡ true)
    [ true ↦ le-leb (length before) at (omega arith) | false ↦ reached_past n at before (omega arith) ]
reached_past n at (m ∷ before) h = reached_past n at before (omega arith)

passes_number : (n at : ℕ) (before : List Mark) → not (has_enter n (since before at)) ≡ reached at (enter_at n before)
passes_number n at [] = refl
passes_number n at (Enter k ∷ before) =
    elim (cases_lt at (length before)) [
      | inl h ↦ rw (since_more (Enter k) before at h)
          (elim (eqb n k) as (λ b. not (b || has_enter n (since before at)) ≡ reached at (cond b (Some (length before)) (enter_at n before)))
          [ true ↦ sym (lt-leb (length before) at h) | false ↦ passes_number n at before ])
      | inr h ↦ rw (le-ltb at (length before) h)
          (elim (eqb n k) as (λ b. true ≡ reached at (cond b (Some (length before)) (enter_at n before)))
          [ true ↦ sym (le-leb (length before) at h) | false ↦ sym (reached_past n at before h) ])
    ]
passes_number n at (m ∷ before) =
    elim (cases_lt at (length before)) [
      | inl h ↦ rw (lt-ltb at (length before) h) (passes_number n at before)
      | inr h ↦ rw (le-ltb at (length before) h) (sym (reached_past n at before h))
    ]

-- a Leave reaches back past all marks behind an index, where its Enter does not stand behind it
pub passes_reached : (n : Option ℕ) (at : ℕ) (before : List Mark) → passes n (since before at) ≡ reached at (reach_of n before)
passes_reached None at before = refl
passes_reached (Some n) at before = passes_number n at before
