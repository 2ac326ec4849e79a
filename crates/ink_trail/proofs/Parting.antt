-- A part that keeps a trail, and is put back by it.
use Rattle.std.proofs.Common.{◌≡◌, ◌≤◌, ◌<◌, ◌^◌, ℕ, List, [], ◌∷◌, length, true, Option, Some, None, is_some, arith, refl, subst}
use Rattle.ink_trail.specs.Stays.{Stays}
use Rattle.ink_trail.specs.Undo.{TrailView, Undo, spare, spare_of, stood, trail_of, undone}

-- ---- room

module _ {E : Type 0} where
  by_room : (n : ℕ) (u : Option (Undo E)) (r : ℕ) → n < 2 ^ 64 → (is_some u ≡ true → n ≤ r) → n ≤ spare_of u r
  by_room n None r fits h = omega (arith, fits)
  by_room n (Some u) r fits h = h refl

  -- there is room, where a mark stands
  pub spare-room : (n : ℕ) (t : TrailView E) → n < 2 ^ 64 → (is_some t.undo ≡ true → n ≤ t.room) → n ≤ spare t
  unfolding spare
  spare-room n t fits h = by_room n t.undo t.room fits h

  marked_room : (u : Option (Undo E)) (r : ℕ) → is_some u ≡ true → spare_of u r ≡ r
  marked_room None r some = absurd (cc)
  marked_room (Some u) r some = refl

  pub spare-marked : (t : TrailView E) → is_some t.undo ≡ true → spare t ≡ t.room
  unfolding spare
  spare-marked t some = marked_room t.undo t.room some

-- ---- the last pair

module _ {E D : Type 0} (back : E → D → D) where
  none_back : (es : List E) (d : D) → length es ≡ 0 → d ≡ undone back es d
  none_back [] d none = refl
  none_back (e ∷ es) d none = absurd (omega (arith, none))

  -- where there is no pair
  pub stood-empty : (t : TrailView E) (d : D) → length (trail_of t.undo) ≡ 0 → d ≡ stood back t d
  stood-empty t d none = none_back (trail_of t.undo) d none

-- what is true while pairs are put back is true once the last was
pub stays-last : {E D R : Type 0} → (back : E → D → D) (room_of : E → R → R) (Holds : R → D → Type 0) (e : E) (room : R) (es fs : List E) (d : D)
    → es ≡ e ∷ fs → Stays back room_of Holds room es d → Stays back room_of Holds (room_of e room) fs (back e d)
stays-last back room_of Holds e room es fs d last h = (subst (λ gs. Stays back room_of Holds room gs d) last h).1
