-- The shown newline that no Text or Tag follows, over the definitions alone.
use Rattle.std.proofs.Common.{◌≡◌, ℕ, ◌<◌, ◌≤◌, Bool, true, false, ◌||◌, ◌&&◌, eqb, List, [], ◌∷◌, length, drop, reverse, None, Some, refl, sym, ap, ◌∙◌, arith, inl, inr}
use Rattle.std.proofs.lemmas.Bool.{cases_lt, cases_Bool, or_parts, or_left, or_right, eq-eqb, le-leb, lt-leb, both_ways}
use Rattle.std.proofs.lemmas.List.{reverse-append, length-reverse, drop-append-le, drop_all}
use Rattle.std.proofs.Math.Bool.{or-false}
use Rattle.ink_model.proofs.Opens.{has_more-append, opens_there, plain_behind, shown_clear}
use Rattle.ink_model.specs.Text.Shown.{unhidden_newline, shown_before, newline_last, newline_shown, newlines_before, is_among, open_before, has_more}
use Rattle.ink_out.proofs.Common.{Mark, Text, Newline, Tag}
use Rattle.ink_out.specs.Tracks.{since}
use Rattle.ink_out.specs.Stands.{more_at, is_past}
use Rattle.ink_out.proofs.Covers.{since_more, since_here}

head_among : (before after : List Mark) (k : ℕ) (ks : List ℕ) → newlines_before before after ≡ k ∷ ks → is_among k (newlines_before before after) ≡ true
head_among before after k ks e = ap (is_among k) e ∙ or_left (eqb k k) (is_among k ks) (eq-eqb k k refl)

-- ---- what stands behind an index

-- a Text or Tag at the end stands behind it
followed : (m : Mark) (before : List Mark) (i : ℕ) → ((ms : List Mark) → has_more (m ∷ ms) ≡ true) → i < length before → has_more (since (m ∷ before) i) ≡ true
followed m before i more h = rw (since_more m before i h) (more (since before i))

over : (m : Mark) (before : List Mark) (i : ℕ) → ((ms : List Mark) → has_more (m ∷ ms) ≡ has_more ms) → i < length before → has_more (since (m ∷ before) i) ≡ has_more (since before i)
over m before i same h = rw (since_more m before i h) (same (since before i))

-- a shown newline stands before
still : (m : Mark) (before after : List Mark) (i : ℕ) → ((ms : List Mark) → has_more (m ∷ ms) ≡ has_more ms) → is_among i (newlines_before before (m ∷ after)) ≡ true → has_more (since (m ∷ before) i) ≡ true → has_more (since before i) ≡ true
still m before after i same = plain_behind (λ ms k. has_more (since ms k)) followed over m before after i true same

-- a shown newline that no Text or Tag follows is the last one shown, and it is the open one
pub open_there : (before after : List Mark) (i : ℕ) → is_among i (newlines_before before after) ≡ true → has_more (since before i) ≡ false → (newline_last before after ≡ true) × (open_before before after ≡ Some i)
open_there = opens_there (λ ms k. has_more (since ms k)) followed over

-- ---- none is open

-- where the last shown mark is no newline, none is
pub open_none : (before after : List Mark) → newline_last before after ≡ false → open_before before after ≡ None
open_none [] after h = refl
open_none (Text t ∷ before) after h = refl
open_none (Tag t ∷ before) after h = refl
open_none (Newline ∷ before) after h =
    let (c, e) = or_parts (unhidden_newline before after && shown_before before (Newline ∷ after)) (newline_last before (Newline ∷ after)) h in
    elim (cases_Bool (newline_shown before after)) [
      | inl s ↦ absurd (both_ways (unhidden_newline before after && shown_before before (Newline ∷ after)) c (shown_clear (unhidden_newline before after) (shown_before before (Newline ∷ after)) (newline_last before (Newline ∷ after)) s).0)
      | inr s ↦ rw s (open_none before (Newline ∷ after) e)
    ]
open_none (m ∷ before) after h = open_none before (m ∷ after) h

-- where a Text or Tag follows the last shown newline, none is
pub open_followed : (before after : List Mark) (k : ℕ) (ks : List ℕ) → newlines_before before after ≡ k ∷ ks → has_more (since before k) ≡ true → open_before before after ≡ None
open_followed [] after k ks e h = cc
open_followed (Text t ∷ before) after k ks e h = refl
open_followed (Tag t ∷ before) after k ks e h = refl
open_followed (Newline ∷ before) after k ks e h =
    elim (cases_Bool (newline_shown before after)) [
      | inl s ↦
          let here = rw s at e in
          let same : k ≡ length before = cc in
          let none : has_more (since (Newline ∷ before) k) ≡ false = ap (λ i. has_more (since (Newline ∷ before) i)) same ∙ ap has_more (since_here Newline before) in
          absurd (both_ways (has_more (since (Newline ∷ before) k)) none h)
      | inr s ↦
          let here = rw s at e in
          rw s (open_followed before (Newline ∷ after) k ks here (still Newline before after k (λ ms. refl) (head_among before (Newline ∷ after) k ks here) h))
    ]
open_followed (m ∷ before) after k ks e h = open_followed before (m ∷ after) k ks e (still m before after k (λ ms. refl) (head_among before (m ∷ after) k ks e) h)

-- ---- a Text or Tag from an index on

more_within : (before : List Mark) (i : ℕ) → length before ≤ i → is_past i (more_at before) ≡ false
more_within [] i h = refl
more_within (Text t ∷ before) i h = lt-leb i (length before) (omega arith)
more_within (Tag t ∷ before) i h = lt-leb i (length before) (omega arith)
more_within (m ∷ before) i h = more_within before i (omega arith)

last_mark : (m : Mark) (before : List Mark) (i : ℕ) → i ≤ length before → has_more (drop i (reverse (m ∷ before))) ≡ (has_more (drop i (reverse before)) || has_more (m ∷ []))
last_mark m before i h =
    let le : i ≤ length (reverse before) = omega (arith, length-reverse before) in
    ap (λ ms. has_more (drop i ms)) (reverse-append (m ∷ []) before)
    ∙ ap has_more (drop-append-le i (reverse before) (m ∷ []) le)
    ∙ has_more-append (drop i (reverse before)) (m ∷ [])

past_all : (ms : List Mark) (i : ℕ) → length ms ≤ i → has_more (drop i (reverse ms)) ≡ false
past_all ms i h = ap has_more (drop_all i (reverse ms) (omega (arith, length-reverse ms)))

marked_more : (m : Mark) (before : List Mark) (i : ℕ) → has_more (m ∷ []) ≡ true → has_more (drop i (reverse (m ∷ before))) ≡ is_past i (Some (length before))
marked_more m before i e =
    elim (cases_lt (length before) i) [
      | inl l ↦ past_all (m ∷ before) i (omega arith) ∙ sym (lt-leb i (length before) l)
      | inr l ↦
          last_mark m before i l
          ∙ or_right (has_more (drop i (reverse before))) (has_more (m ∷ [])) e
          ∙ sym (le-leb i (length before) l)
    ]

plain_more : (m : Mark) (before : List Mark) (i : ℕ) → has_more (m ∷ []) ≡ false → has_more (drop i (reverse before)) ≡ is_past i (more_at before) → has_more (drop i (reverse (m ∷ before))) ≡ is_past i (more_at before)
plain_more m before i e h =
    elim (cases_lt (length before) i) [
      | inl l ↦ past_all (m ∷ before) i (omega arith) ∙ sym (more_within before i (omega arith))
      | inr l ↦ last_mark m before i l ∙ ap (λ b. has_more (drop i (reverse before)) || b) e ∙ or-false (has_more (drop i (reverse before))) ∙ h
    ]

pub more_is : (before : List Mark) (i : ℕ) → has_more (drop i (reverse before)) ≡ is_past i (more_at before)
more_is [] i = past_all [] i (omega arith)
more_is (Text t ∷ before) i = marked_more (Text t) before i refl
more_is (Tag t ∷ before) i = marked_more (Tag t) before i refl
more_is (m ∷ before) i = plain_more m before i refl (more_is before i)
