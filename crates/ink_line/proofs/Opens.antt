-- The newline that is open, which is shown with no Text or Tag behind it: there is one at most.
use Rattle.std.proofs.Common.{◌≡◌, ℕ, suc, ◌<◌, ◌≤◌, Bool, true, false, ◌||◌, eqb, List, [], ◌∷◌, length, drop, reverse, Some, refl, sym, ap, ◌∙◌, arith, inl, inr}
use Rattle.std.proofs.lemmas.Bool.{cases_Bool, or_left, or_right, eq-eqb}
use Rattle.std.proofs.lemmas.List.{reverse-append, reverse-reverse, length-reverse, drop-append-le, drop_all}
use Rattle.std.proofs.Math.Bool.{or-false}
use Rattle.ink_model.proofs.Opens.{has_more-append, newlines_within, opens_there}
use Rattle.ink_model.specs.Text.Shown.{newline_shown, newlines_before, is_among, is_shown, open_before, open_newline, has_more, more_from}
use Rattle.ink_model.specs.declared.mark.Mark.{Mark}
use Rattle.ink_model.specs.declared.mark.Mark.TheVariants.{Text, Newline, Tag}

-- ---- what stands behind an index

-- a Text or Tag stands behind it, among marks that are listed from the last on
abbrev behind : List Mark → ℕ → Bool
behind before i = has_more (drop (suc i) (reverse before))

-- with one more mark
behind_with : (m : Mark) (before : List Mark) (i : ℕ) → i < length before → behind (m ∷ before) i ≡ (behind before i || has_more (m ∷ []))
behind_with m before i l =
    let le : suc i ≤ length (reverse before) = omega (arith, l, length-reverse before) in
    ap (λ ms. has_more (drop (suc i) ms)) (reverse-append (m ∷ []) before)
    ∙ ap has_more (drop-append-le (suc i) (reverse before) (m ∷ []) le)
    ∙ has_more-append (drop (suc i) (reverse before)) (m ∷ [])

followed : (m : Mark) (before : List Mark) (i : ℕ) → ((ms : List Mark) → has_more (m ∷ ms) ≡ true) → i < length before → behind (m ∷ before) i ≡ true
followed m before i more l = behind_with m before i l ∙ or_right (behind before i) (has_more (m ∷ [])) (more [])

over : (m : Mark) (before : List Mark) (i : ℕ) → ((ms : List Mark) → has_more (m ∷ ms) ≡ has_more ms) → i < length before → behind (m ∷ before) i ≡ behind before i
over m before i same l = behind_with m before i l ∙ ap (λ b. behind before i || b) (same []) ∙ or-false (behind before i)

none_behind : (ms : List Mark) (i : ℕ) → length ms ≤ suc i → behind ms i ≡ false
none_behind ms i h = ap has_more (drop_all (suc i) (reverse ms) (omega (arith, h, length-reverse ms)))

-- ---- shown newlines stand among the marks

pub shown_below : (ms : List Mark) (i : ℕ) → is_shown ms i ≡ true → i < length ms
shown_below ms i shown = omega (arith, newlines_within (reverse ms) [] i shown, length-reverse ms)

-- ---- a shown newline with nothing behind it is the open one

same_behind : (ms : List Mark) (i : ℕ) → behind (reverse ms) i ≡ more_from ms (suc i)
same_behind ms i = ap (λ ns. has_more (drop (suc i) ns)) (reverse-reverse ms)

pub is_open : (ms : List Mark) (i : ℕ) → is_shown ms i ≡ true → more_from ms (suc i) ≡ false → open_newline ms ≡ Some i
is_open ms i shown more = (opens_there behind followed over (reverse ms) [] i shown (same_behind ms i ∙ more)).1

-- ---- and the open one is shown, with nothing behind it

onward : (m : Mark) (before after : List Mark) (i : ℕ) → ((ms : List Mark) → has_more (m ∷ ms) ≡ has_more ms) → (is_among i (newlines_before before (m ∷ after)) ≡ true) × (behind before i ≡ false) → (is_among i (newlines_before before (m ∷ after)) ≡ true) × (behind (m ∷ before) i ≡ false)
onward m before after i same found = (found.0, over m before i same (newlines_within before (m ∷ after) i found.0) ∙ found.1)

open_there : (before after : List Mark) (i : ℕ) → open_before before after ≡ Some i → (is_among i (newlines_before before after) ≡ true) × (behind before i ≡ false)
open_there [] after i e = cc
open_there (Text t ∷ before) after i e = cc
open_there (Tag t ∷ before) after i e = cc
open_there (Newline ∷ before) after i e = elim (cases_Bool (newline_shown before after)) [
  | inl s ↦
      let here = rw s at e in
      let same : i ≡ length before = cc in (
        rw s (or_left (eqb i (length before)) (is_among i (newlines_before before (Newline ∷ after))) (eq-eqb i (length before) same)),
        none_behind (Newline ∷ before) i (omega (arith, same)),
      )
  | inr s ↦
      let found = open_there before (Newline ∷ after) i (rw s at e) in
      (rw s found.0, over Newline before i (λ ms. refl) (newlines_within before (Newline ∷ after) i found.0) ∙ found.1)
]
open_there (m ∷ before) after i e = onward m before after i (λ ms. refl) (open_there before (m ∷ after) i e)

pub open_is : (ms : List Mark) (i : ℕ) → open_newline ms ≡ Some i → (is_shown ms i ≡ true) × (more_from ms (suc i) ≡ false)
open_is ms i e = let found = open_there (reverse ms) [] i e in (found.0, sym (same_behind ms i) ∙ found.1)
